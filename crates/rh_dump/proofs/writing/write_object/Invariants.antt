use Rattle.std.proofs.Common.{◌≡◌, ◌++◌, ◌∷◌, [], false, drop}
use Rattle.std.specs.List.{flat_map}
use Rattle.rh_text.specs.lemmas.Appends.{Sent}
use Rattle.rh_text.specs.IoLog.{MadeSince}
use Rattle.rh_dump.specs.texts.Line.{spell_dump_line, object_line}
use Rattle.rh_dump.proofs.texts.Sending.{object_of, value_piece}
use Rattle.rh_dump.proofs.writing.write_object.Given as goal

abbrev pub invariant-loop-value : goal.invariant-loop-value
invariant-loop-value g l = record {
  sent : Sent (g.W.Write.contents l.fn.writer) (g.W.Write.contents l.writer) (spell_dump_line (object_line l.number (object_of l.raw l.fields))) (flat_map value_piece (drop l.value-index l.fields) ++ 10 ∷ []);
  none_failed : l.writes.failed ≡ false;
  counted : MadeSince 0 l.fn.writes l.writes;
}
