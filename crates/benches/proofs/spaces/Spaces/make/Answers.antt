use Rattle.std.specs.Prelude.{◌≡◌, ℕ, false, [], ◌∷◌, ◌++◌, Result, Ok, Err, IfOk, OnErr}
use Rattle.std.proofs.Common.{sym, subst}
use Rattle.rh_layout.specs.declared.shape.Shape.{Shape}
use Rattle.rh_layout.specs.Shape.{shape_of}
use Rattle.rh_space.specs.Space.{SpaceState, new_object}
use Rattle.rh_place.specs.Joint.{JointState}
use Rattle.rh_place.specs.Mirrors.{Mirrors}
use Rattle.benches.proofs.spaces.Spaces.make.Goals as goal

-- either way the space is the joint's
Mirrors-bump : {E : Type 0} (r : Result ℕ E) (s s' : SpaceState) (j : JointState) (shape : Shape) → IfOk r (λ a. s' ≡ record s { objects = s.objects ++ new_object shape ∷ [] }) → OnErr r (s' ≡ s) → Mirrors s j → Mirrors (record s { objects = s.objects ++ new_object shape ∷ [] }) j → Mirrors s' j
Mirrors-bump (Ok a) s s' j shape added kept old new = subst (λ x. Mirrors x j) (sym added) new
Mirrors-bump (Err e) s s' j shape added kept old new = subst (λ x. Mirrors x j) (sym kept) old

pub invariant_of-self : goal.invariant_of-self
invariant_of-self c =
    Mirrors-bump c.bump.result c.self.inside.space c.bump.new.self c.self.inside.joint (shape_of c.args.fields false) c.bump.ensures.added c.bump.ensures.unchanged c.self.invariant
    (c.from_space_goes_on.ensures.new c.self.inside.space c.self.inside.joint (shape_of c.args.fields false) c.self.invariant)
