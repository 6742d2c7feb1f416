use Rattle.std.proofs.Common.{◌≡◌, true, false, drop, length}
use Rattle.rh_text.specs.lemmas.Appends.{Sent}
use Rattle.rh_text.specs.IoLog.{MadeSince}
use Rattle.rh_snapshot.proofs.Parts.{edges_text}
use Rattle.rh_snapshot.proofs.writing.write_edges.Given as goal

abbrev pub invariant-loop-value : goal.invariant-loop-value
invariant-loop-value g l = record {
  sent : Sent (g.W.Write.contents l.fn.writer) (g.W.Write.contents l.writer) (edges_text 0 l.fields) (edges_text l.field (drop l.value-index l.fields));
  field : l.field ≡ l.value-index;
  none_failed : l.writes.failed ≡ false;
  counted : MadeSince 0 l.fn.writes l.writes;
}
