use Rattle.std.specs.Prelude.{IsTrue, is_some}
use Rattle.std.proofs.Common.{ap, ◌∙◌, subst}
use Rattle.rh_place.specs.lemmas.Placements.{is_some-forwarding}
use Rattle.layer_tests.proofs.layers.place.is_holdable.Goals as goal

pub returns-in-Ref : goal.returns-in-Ref
returns-in-Ref c told =
    rw c.in-Ref.is (subst IsTrue (c.is_some.ensures ∙ ap is_some c.forward.ensures ∙ is_some-forwarding c.args.joint.now.placed c.in-Ref.b) told)
