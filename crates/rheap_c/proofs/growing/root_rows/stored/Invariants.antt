use Rattle.std.proofs.Common.{◌≤◌, ◌-◌}
use Rattle.rheap_c.specs.Grown.{DoesOnce}
use Rattle.rheap_c.specs.RootRows.{row_stores}
use Rattle.rheap_c.proofs.InTurn.{Leads}
use Rattle.rheap_c.proofs.growing.root_rows.stored.Given as goal

-- what comes of the stores that are left is, with those that were done, what comes of all
abbrev pub invariant-loop-at : goal.invariant-loop-at
invariant-loop-at l = record {
  few : l.at ≤ l.fn.length;
  leads : Leads DoesOnce l.fn.heap (row_stores l.fn.owner l.fn.object l.fn.from l.fn.first l.fn.length) l.at l.heap (row_stores l.owner l.object l.field l.src (l.length - l.at));
}
