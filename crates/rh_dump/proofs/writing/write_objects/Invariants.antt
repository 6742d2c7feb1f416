use Rattle.std.proofs.Common.{◌≡◌, false, drop, length}
use Rattle.std.specs.List.{flat_map}
use Rattle.rh_text.specs.lemmas.Appends.{Sent}
use Rattle.rh_text.specs.IoLog.{MadeSince}
use Rattle.rh_dump.specs.Graph.{objects_in, total}
use Rattle.rh_dump.specs.texts.Line.{spell_dump_line, object_lines}
use Rattle.rh_dump.proofs.writing.write_objects.Given as goal

abbrev pub invariant-loop-count : goal.invariant-loop-count
invariant-loop-count g l = record {
  sent : Sent (g.W.Write.contents l.fn.writer) (g.W.Write.contents l.writer) (flat_map spell_dump_line (object_lines 0 (objects_in l.counts l.values))) (flat_map spell_dump_line (object_lines l.number (objects_in (drop l.count-index l.counts) l.rest)));
  filled : total (drop l.count-index l.counts) ≡ length l.rest;
  number : l.number ≡ l.count-index;
  none_failed : l.writes.failed ≡ false;
  counted : MadeSince 0 l.fn.writes l.writes;
}
