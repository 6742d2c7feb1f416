use Rattle.std.proofs.Common.{◌≡◌, false, drop}
use Rattle.std.specs.List.{flat_map}
use Rattle.rh_text.specs.lemmas.Appends.{Sent}
use Rattle.rh_text.specs.IoLog.{MadeSince}
use Rattle.rh_dot.specs.Dot.{field_edges, spell_dot_line}
use Rattle.rh_dot.proofs.writing.write_edges.Given as goal

abbrev pub invariant-loop-value : goal.invariant-loop-value
invariant-loop-value g l = record {
  sent : Sent (g.W.Write.contents l.fn.writer) (g.W.Write.contents l.writer) (flat_map spell_dot_line (field_edges l.number 0 l.fields)) (flat_map spell_dot_line (field_edges l.number l.field (drop l.value-index l.fields)));
  field : l.field ≡ l.value-index;
  none_failed : l.writes.failed ≡ false;
  counted : MadeSince 0 l.fn.writes l.writes;
}
