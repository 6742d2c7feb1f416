use Rattle.std.proofs.Common.{◌≡◌, false, drop}
use Rattle.rh_text.specs.lemmas.Appends.{Sent}
use Rattle.rh_text.specs.IoLog.{MadeSince}
use Rattle.rh_dot.specs.Dot.{cells_text}
use Rattle.rh_dot.proofs.writing.write_cells.Given as goal

abbrev pub invariant-loop-value : goal.invariant-loop-value
invariant-loop-value g l = record {
  sent : Sent (g.W.Write.contents l.fn.writer) (g.W.Write.contents l.writer) (cells_text 0 l.fields) (cells_text l.field (drop l.value-index l.fields));
  field : l.field ≡ l.value-index;
  none_failed : l.writes.failed ≡ false;
  counted : MadeSince 0 l.fn.writes l.writes;
}
