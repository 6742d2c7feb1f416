use Rattle.std.proofs.Common.{ℕ, ◌+◌, ◌<◌, ◌≤◌, ◌≡◌, ◌↔◌, Bool, ap, subst, ◌∙◌}
use Rattle.std.specs.Prelude.{◌-◌, ◌^◌, IsTrue, not}
use Rattle.rh_replay.specs.declared.checking.Verdict.{Verdict}
use Rattle.rh_commands.specs.Fault.{status_after}
use Rattle.rh_commands.specs.Replay.{TellsLegal, TellsWrong}
use Rattle.rh_commands.specs.ViewLog.{ViewLogState}
use Rattle.rh_commands.specs.declared.fault.LineFault.{LineFault}
use Rattle.rh_commands.specs.declared.fault.LineFault.TheVariants as faults
use Rattle.rh_commands.proofs.Causes.{caused, flushed_once, report_flushed}
use Rattle.rh_commands.proofs.Reported.{ReportEnds-flushed}
use Rattle.rh_commands.proofs.reporting.view_report_of.Goals as goal

pub returns-clause-concluded : goal.returns-clause-concluded
returns-clause-concluded g c =
    let reported = c.report_on-reported.result in
    let status = status_after c.conclude.result in
    let log = c.flush.new.self in
    let legal = subst (λ (b : Bool). (status ≡ 0) ↔ (TellsLegal reported × IsTrue (not b))) c.has_flush_failed.ensures c.conclude.ensures.legal in
    let wrong = subst (λ (b : Bool). (status ≡ 4) ↔ (TellsWrong reported × IsTrue (not b))) c.has_flush_failed.ensures c.conclude.ensures.wrong in
    let cause = caused Verdict LineFault faults.Read faults.Write reported status log c.log.inside.reads c.report_on-reported.new.writes c.flush.ensures.reads c.flush.ensures.writes
    (λ is. absurd (c.report_on-reported.ensures.never_read is)) (λ not_read. ap (λ (x : ViewLogState). x.reads.failed) c.log.view_is ∙ c.requires.no_read_failed) c.report_on-reported.ensures.failed c.report_on-reported.ensures.none_failed
    (report_flushed reported status log.flush_failed c.conclude.ensures.status legal wrong) in
    (reported, ReportEnds-flushed c.args.telling c.args.input.now reported _ _ _ c.report_on-reported.ensures.ends c.flush.ensures.kept, c.conclude.ensures.status, cause)

pub returns-clause-flushed : goal.returns-clause-flushed
returns-clause-flushed g c =
    let after = c.flush.new.self.flushes in
    subst (λ (before : ℕ). after < 2 ^ 64 - 1 → before + 1 ≤ after) (ap (λ (x : ViewLogState). x.flushes) c.log.view_is) (flushed_once c.log.inside.flushes after c.flush.ensures.flushes)
