use Rattle.std.proofs.Common.{◌≡◌, false}
use Rattle.std.specs.Io.KnownBytes.{Appends}
use Rattle.rh_text.specs.IoLog.{MadeSince}
use Rattle.rh_replay.specs.Report.{owner_lines}
use Rattle.rh_replay.proofs.writing.report_logged.Given as goal

abbrev pub invariant-loop-owner : goal.invariant-loop-owner
invariant-loop-owner g l = record {
  sent : Appends (g.W.Write.contents l.fn.writer) (g.W.Write.contents l.writer) (owner_lines l.calls l.owner);
  none_failed : l.writes.failed ≡ false;
  counted : MadeSince 0 l.fn.writes l.writes;
}
