use Rattle.std.proofs.Common.{◌≡◌}
use Rattle.rh_model.specs.Graph.{root_value}
use Rattle.rh_dump.specs.Numbering.{filled_roots}
use Rattle.rh_dump.specs.Meeting.{with_roots}
use Rattle.rh_dump.proofs.numbering.Numbering.put_roots.Given as goal

abbrev pub invariant-loop-owner : goal.invariant-loop-owner
invariant-loop-owner g l = l.self ≡ with_roots l.fn.self (filled_roots (root_value (g.H.ObjectGraph.graph l.heap)) l.slots l.owner)
