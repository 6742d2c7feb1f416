use Rattle.std.proofs.Common.{◌≡◌, false, drop}
use Rattle.std.specs.List.{flat_map}
use Rattle.rh_text.specs.lemmas.Appends.{Sent}
use Rattle.rh_text.specs.IoLog.{MadeSince}
use Rattle.rh_dot.specs.Dot.{root_lines, spell_dot_line}
use Rattle.rh_dot.proofs.writing.write_roots.Given as goal

abbrev pub invariant-loop-entry : goal.invariant-loop-entry
invariant-loop-entry g l = record {
  sent : Sent (g.W.Write.contents l.fn.writer) (g.W.Write.contents l.writer) (flat_map spell_dot_line (flat_map root_lines l.roots)) (flat_map spell_dot_line (flat_map root_lines (drop l.entry-index l.roots)));
  none_failed : l.writes.failed ≡ false;
  counted : MadeSince 0 l.fn.writes l.writes;
}
