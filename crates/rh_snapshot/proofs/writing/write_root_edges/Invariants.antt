use Rattle.std.proofs.Common.{◌≡◌, true, false, drop, length}
use Rattle.rh_text.specs.lemmas.Appends.{Sent}
use Rattle.rh_text.specs.IoLog.{MadeSince}
use Rattle.rh_snapshot.proofs.Parts.{root_edges_text}
use Rattle.rh_snapshot.proofs.writing.write_root_edges.Given as goal

abbrev pub invariant-loop-root : goal.invariant-loop-root
invariant-loop-root g l = record {
  sent : Sent (g.W.Write.contents l.fn.writer) (g.W.Write.contents l.writer) (root_edges_text true 0 l.roots) (root_edges_text l.is_first l.position (drop l.root-index l.roots));
  position : l.position ≡ l.root-index;
  none_failed : l.writes.failed ≡ false;
  counted : MadeSince 0 l.fn.writes l.writes;
}
