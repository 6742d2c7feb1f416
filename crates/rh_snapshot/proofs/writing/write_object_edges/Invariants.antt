use Rattle.std.proofs.Common.{◌≡◌, true, false, drop, length}
use Rattle.rh_text.specs.lemmas.Appends.{Sent}
use Rattle.rh_text.specs.IoLog.{MadeSince}
use Rattle.rh_dump.specs.Graph.{total}
use Rattle.rh_snapshot.proofs.Parts.{objects_text}
use Rattle.rh_snapshot.proofs.writing.write_object_edges.Given as goal

abbrev pub invariant-loop-shape : goal.invariant-loop-shape
invariant-loop-shape g l = record {
  sent : Sent (g.W.Write.contents l.fn.writer) (g.W.Write.contents l.writer) (objects_text l.shapes l.values) (objects_text (drop l.shape-index l.shapes) l.rest);
  filled : total (drop l.shape-index l.shapes) ≡ length l.rest;
  none_failed : l.writes.failed ≡ false;
  counted : MadeSince 0 l.fn.writes l.writes;
}
