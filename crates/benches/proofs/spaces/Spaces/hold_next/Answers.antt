use Rattle.rh_place.specs.lemmas.Placements.{is_placed-field}
use Rattle.benches.proofs.spaces.Spaces.hold_next.Goals as goal

pub accept-requires-clause-mirrors : goal.accept-requires-clause-mirrors
accept-requires-clause-mirrors c =
    c.next.ensures.mirrors c.self.inside.space c.self.invariant

pub accept-requires-clause-reference : goal.accept-requires-clause-reference
accept-requires-clause-reference c =
    rw c.next.ensures.joint (is_placed-field c.self.inside.joint.placed c.in-Some.field-0.object c.in-Some.field-0.field c.in-Some.ensures.there)
