use Rattle.std.proofs.Common.{◌≡◌, ◌++◌, false, take}
use Rattle.std.specs.List.{flat_map}
use Rattle.std.specs.Io.KnownBytes.{Appends}
use Rattle.rh_text.specs.IoLog.{MadeSince}
use Rattle.rh_syntax.specs.Spelling.{spell_request, spell_header}
use Rattle.rh_syntax.proofs.printing.print_logged.Given as goal

abbrev pub invariant-loop-request : goal.invariant-loop-request
invariant-loop-request g l = record {
  sent : Appends (g.W.Write.contents l.fn.writer) (g.W.Write.contents l.writer) (spell_header l.trace.header ++ flat_map spell_request (take l.request-index l.requests));
  none_failed : l.writes.failed ≡ false;
  counted : MadeSince 0 l.fn.writes l.writes;
}
