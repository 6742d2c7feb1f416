use Rattle.std.proofs.Common.{◌≤◌, length, drop}
use Rattle.rheap_c.specs.Grown.{DoesOnce}
use Rattle.rheap_c.specs.ValueRows.{value_stores}
use Rattle.rheap_c.proofs.InTurn.{Leads}
use Rattle.rheap_c.proofs.growing.value_rows.stored.Given as goal

-- what comes of the stores that are left is, with those that were done, what comes of all
abbrev pub invariant-loop-at : goal.invariant-loop-at
invariant-loop-at l = record {
  few : l.at ≤ length l.fn.values;
  leads : Leads DoesOnce l.fn.heap (value_stores l.fn.owner l.fn.object l.fn.from l.fn.values) l.at l.heap (value_stores l.owner l.object l.field (drop l.at l.values));
}
