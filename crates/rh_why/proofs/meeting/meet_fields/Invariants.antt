use Rattle.std.proofs.Common.{◌≡◌, drop}
use Rattle.rh_why.specs.Path.{with_fields}
use Rattle.rh_why.proofs.meeting.meet_fields.Given as goal

abbrev pub invariant-loop-value : goal.invariant-loop-value
invariant-loop-value g l = record {
  met : with_fields l.holders.items l.object l.field (drop l.value-index l.fields) ≡ with_fields l.fn.holders.items l.object 0 l.fields;
  field : l.field ≡ l.value-index;
}
