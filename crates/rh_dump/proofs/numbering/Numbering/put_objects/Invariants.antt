use Rattle.std.proofs.Common.{◌≡◌, ◌≤◌, ◌-◌, length}
use Rattle.rh_dump.specs.Numbering.{names_after}
use Rattle.rh_dump.specs.Meeting.{numbering_after}
use Rattle.rh_dump.proofs.numbering.Numbering.put_objects.Given as goal

abbrev pub invariant-loop-name : goal.invariant-loop-name
invariant-loop-name g l = record {
  state : l.self ≡ numbering_after l.fn.self.limit (g.H.ObjectGraph.graph l.heap) l.number;
  within : l.number ≤ length (names_after (g.H.ObjectGraph.graph l.heap) l.number);
}

abbrev pub decreases-loop-name : goal.decreases-loop-name
decreases-loop-name g l = l.fn.self.limit - l.number
