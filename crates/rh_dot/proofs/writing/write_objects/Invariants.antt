use Rattle.std.proofs.Common.{◌≡◌, false, drop, length}
use Rattle.std.specs.List.{flat_map}
use Rattle.rh_text.specs.lemmas.Appends.{Sent}
use Rattle.rh_text.specs.IoLog.{MadeSince}
use Rattle.rh_dump.specs.Graph.{objects_in, total}
use Rattle.rh_dot.specs.Dot.{object_lines, spell_dot_line}
use Rattle.rh_dot.proofs.writing.write_objects.Given as goal

abbrev pub invariant-loop-shape : goal.invariant-loop-shape
invariant-loop-shape g l = record {
  sent : Sent (g.W.Write.contents l.fn.writer) (g.W.Write.contents l.writer) (flat_map spell_dot_line (object_lines 0 (objects_in l.shapes l.values))) (flat_map spell_dot_line (object_lines l.number (objects_in (drop l.shape-index l.shapes) l.rest)));
  filled : total (drop l.shape-index l.shapes) ≡ length l.rest;
  number : l.number ≡ l.shape-index;
  none_failed : l.writes.failed ≡ false;
  counted : MadeSince 0 l.fn.writes l.writes;
}
