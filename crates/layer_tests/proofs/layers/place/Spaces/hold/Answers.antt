use Rattle.std.specs.Prelude.{length, []}
use Rattle.std.specs.Option.{option_map_or}
use Rattle.std.proofs.Common.{arith, ap, sym, ◌∙◌}
use Rattle.rh_space.specs.Space.{Object}
use Rattle.rh_place.specs.lemmas.Placements.{is_placed-forwarding}
use Rattle.rh_place.specs.lemmas.Mirrors.{object_at-placed}
use Rattle.layer_tests.proofs.layers.place.Spaces.hold.Goals as goal

pub accept-requires-clause-place : goal.accept-requires-clause-place
accept-requires-clause-place g c =
    let here = is_placed-forwarding c.self.inside.joint.placed c.args.a c.expect-to.result (sym c.forward.ensures ∙ c.expect-to.ensures) in
    let o = object_at-placed c.self.inside.space.objects c.self.inside.joint.placed c.args.a c.self.invariant.0.originals here in
    let fields = ap (λ r. option_map_or (λ (o : Object). o.fields) r []) o.1 in
    omega (arith, ap length fields, o.2)
