use Rattle.std.proofs.Common.{◌≡◌, length, take}
use Rattle.rh_layout.specs.Shape.{shape_of}
use Rattle.rh_dump.specs.Numbering.{values_in}
use Rattle.rh_dump.specs.Meeting.{with_shape, with_fields}
use Rattle.rh_dump.proofs.numbering.Numbering.put_object.Given as goal

abbrev pub invariant-loop-field : goal.invariant-loop-field
invariant-loop-field g l =
    let graph = g.H.ObjectGraph.graph l.heap in
    let fields = values_in (graph.fields l.name) in
    l.self ≡ with_fields (with_shape l.fn.self (shape_of (length fields) (graph.raw l.name))) (take l.field fields)
