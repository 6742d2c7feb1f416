use Rattle.std.proofs.Common.{◌≡◌, ◌↔◌, ℕ, ◌+◌, ◌<◌, ◌≤◌, Bool, sym, ap, subst}
use Rattle.std.specs.Prelude.{◌-◌, ◌^◌, IsOk, IsTrue, not}
use Rattle.rh_text.specs.IoLog.{IoLogState, CountsDown}
use Rattle.rh_trace.specs.declared.summary.Summary.{Summary}
use Rattle.rh_trace.specs.declared.way_fault.WayFault.{WayFault}
use Rattle.rh_trace.specs.declared.way_fault.WayFault.TheVariants as ends
use Rattle.rh_paced_trace.specs.declared.fault.Unpaced.{Unpaced}
use Rattle.rh_commands.specs.Fault.{status_after}
use Rattle.rh_commands.specs.ViewLog.{ViewLogState}
use Rattle.rh_commands.proofs.Causes.{caused, flushed_thrice, way_flushed}
use Rattle.rh_commands.specs.lemmas.Known.{known_so}
use Rattle.rh_commands.proofs.RunsFlushed.{views_flushed}
use Rattle.rh_commands.proofs.viewing.view_run.Goals as goal

pub returns-clause-told : goal.returns-clause-told
returns-clause-told g c =
    let ran = c.run-ran.result in
    let status = status_after c.conclude.result in
    let log = c.flush_all.new.self in
    let done = subst (λ (b : Bool). (status ≡ 0) ↔ (IsOk ran × IsTrue (not b))) c.has_flush_failed.ensures c.conclude.ensures.done in
    let cause = caused Summary (WayFault Unpaced) ends.Read ends.Write ran status log c.run-ran.new.reads c.run-ran.new.writes c.flush_all.ensures.reads c.flush_all.ensures.writes
    c.run-ran.ensures.read_failed c.run-ran.ensures.no_read_failed c.run-ran.ensures.write_failed c.run-ran.ensures.no_write_failed (way_flushed ran status log.flush_failed c.conclude.ensures.status done) in
    known_so _ _ (g.R.Read.remaining c.args.reader.now)
    (λ input e. (ran, views_flushed g.P.Player.Steps g.P.Player.total g.Q.CycleReading.first g.Q.CycleReading.read (g.Y.Way.fits c.args.way.now) (g.Y.Way.refuses c.args.way.now) c.args.telling _ _ _ c.views-seen.ensures.telling c.views-seen.ensures.no_history c.views-seen.ensures.no_reader _ _ _ c.flush_all.ensures.kept input ran e, c.conclude.ensures.status, cause)) c.run-ran.ensures.told

pub returns-clause-read : goal.returns-clause-read
returns-clause-read g c =
    let ran = c.run-ran.result in
    let status = status_after c.conclude.result in
    let log = c.flush_all.new.self in
    let done = subst (λ (b : Bool). (status ≡ 0) ↔ (IsOk ran × IsTrue (not b))) c.has_flush_failed.ensures c.conclude.ensures.done in
    let cause = caused Summary (WayFault Unpaced) ends.Read ends.Write ran status log c.run-ran.new.reads c.run-ran.new.writes c.flush_all.ensures.reads c.flush_all.ensures.writes
    c.run-ran.ensures.read_failed c.run-ran.ensures.no_read_failed c.run-ran.ensures.write_failed c.run-ran.ensures.no_write_failed (way_flushed ran status log.flush_failed c.conclude.ensures.status done) in
    let given = c.run-ran.ensures.read in
    (given.0, given.1, (ran, views_flushed g.P.Player.Steps g.P.Player.total g.Q.CycleReading.first g.Q.CycleReading.read (g.Y.Way.fits c.args.way.now) (g.Y.Way.refuses c.args.way.now) c.args.telling _ _ _ c.views-seen.ensures.telling c.views-seen.ensures.no_history c.views-seen.ensures.no_reader _ _ _ c.flush_all.ensures.kept given.0 ran given.2, c.conclude.ensures.status, cause))

pub returns-clause-reads_counted : goal.returns-clause-reads_counted
returns-clause-reads_counted g c =
    subst (λ (l : IoLogState). CountsDown l.left l c.flush_all.new.self.reads) (ap (λ (x : ViewLogState). x.reads) c.log.view_is)
    (subst (λ (l : IoLogState). CountsDown c.log.inside.reads.left c.log.inside.reads l) (sym c.flush_all.ensures.reads) c.run-ran.ensures.reads_counted)

pub returns-clause-flushed : goal.returns-clause-flushed
returns-clause-flushed g c =
    let after = c.flush_all.new.self.flushes in
    subst (λ (before : ℕ). after < 2 ^ 64 - 1 → before + 3 ≤ after) (ap (λ (x : ViewLogState). x.flushes) c.log.view_is) (flushed_thrice c.log.inside.flushes after c.flush_all.ensures.flushes)
