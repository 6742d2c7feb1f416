use Rattle.std.proofs.Common.{◌≡◌, ◌++◌, false, take}
use Rattle.std.specs.List.{flat_map}
use Rattle.std.specs.Io.KnownBytes.{Appends}
use Rattle.rh_text.specs.IoLog.{MadeSince}
use Rattle.rh_replay.specs.Spelling.{header_line, call_line}
use Rattle.rh_replay.proofs.writing.write_history_logged.Given as goal

abbrev pub invariant-loop-call : goal.invariant-loop-call
invariant-loop-call g l = record {
  sent : Appends (g.W.Write.contents l.fn.writer) (g.W.Write.contents l.writer) (header_line l.history.contents.owners l.history.contents.slots ++ flat_map call_line (take l.call-index l.calls));
  none_failed : l.writes.failed ≡ false;
  counted : MadeSince 0 l.fn.writes l.writes;
}
