use Rattle.std.proofs.Common.{ℕ, ◌+◌, ◌<◌, ◌≤◌, ◌≡◌, ◌↔◌, Bool, OnErr, OnOk, false, sym, ap, subst, ◌∙◌}
use Rattle.std.specs.Prelude.{◌-◌, ◌^◌, IsOk, IsTrue, not}
use Rattle.rh_text.specs.IoLog.{IoLogState, AreSpent}
use Rattle.rh_commands.specs.Fault.{status_after}
use Rattle.rh_commands.specs.ViewLog.{ViewLogState}
use Rattle.rh_commands.proofs.Causes.{counts_concluded, flushed_once, sent_flushed}
use Rattle.rh_commands.proofs.reporting.write_count.Goals as goal

pub returns-clause-concluded : goal.returns-clause-concluded
returns-clause-concluded g c =
    let contents = g.O.Write.contents in
    let sent = c.send-sent.result in
    let status = status_after c.conclude.result in
    let log = c.flush.new.self in
    let done = subst (λ (b : Bool). (status ≡ 0) ↔ (IsOk sent × IsTrue (not b))) c.has_flush_failed.ensures c.conclude.ensures.done in
    counts_concluded c.args.telling sent status log c.args.graph.now c.as_bytes.result.now (contents c.args.out.now) (contents c.send-sent.new.writer) (contents c.flush.new.writer)
    (c.as_bytes.ensures ∙ c.put_told_counts.ensures) c.send-sent.ensures.ok c.send-sent.ensures.err c.flush.ensures.kept c.conclude.ensures.status
    (ap (λ (l : IoLogState). l.failed) c.flush.ensures.reads ∙ ap (λ (x : ViewLogState). x.reads.failed) c.log.view_is ∙ c.requires.no_read_failed) (subst (λ (l : IoLogState). OnErr sent (AreSpent l)) (sym c.flush.ensures.writes) c.send-sent.ensures.failed)
    (subst (λ (l : IoLogState). OnOk sent (l.failed ≡ false)) (sym c.flush.ensures.writes) c.send-sent.ensures.none_failed) (sent_flushed sent status log.flush_failed c.conclude.ensures.status done)

pub returns-clause-flushed : goal.returns-clause-flushed
returns-clause-flushed g c =
    let after = c.flush.new.self.flushes in
    subst (λ (before : ℕ). after < 2 ^ 64 - 1 → before + 1 ≤ after) (ap (λ (x : ViewLogState). x.flushes) c.log.view_is) (flushed_once c.log.inside.flushes after c.flush.ensures.flushes)
