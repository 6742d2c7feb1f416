use Rattle.std.proofs.lemmas.Slice.Eq.{slice_eq-Decides}
use Rattle.rh_dump.proofs.graphs.SameValues.{shape_eq-Decides}
use Rattle.rh_dump.proofs.comparing.same_shapes.Goals as goal

pub returns : goal.returns
returns c = slice_eq-Decides shape_eq-Decides c.args.a.now c.args.b.now c.eq.result c.eq.ensures
