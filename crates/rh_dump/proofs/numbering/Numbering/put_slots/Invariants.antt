use Rattle.std.proofs.Common.{◌≡◌}
use Rattle.rh_model.specs.Graph.{root_value}
use Rattle.rh_dump.specs.Numbering.{filled_slots}
use Rattle.rh_dump.specs.Meeting.{with_roots}
use Rattle.rh_dump.proofs.numbering.Numbering.put_slots.Given as goal

abbrev pub invariant-loop-slot : goal.invariant-loop-slot
invariant-loop-slot g l = l.self ≡ with_roots l.fn.self (filled_slots (root_value (g.H.ObjectGraph.graph l.heap)) l.owner l.slot)
