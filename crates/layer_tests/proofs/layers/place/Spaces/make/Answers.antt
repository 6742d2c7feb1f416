use Rattle.std.specs.Prelude.{◌≡◌, ℕ, false, [], ◌∷◌, ◌++◌, Result, Ok, Err, IfOk, OnErr}
use Rattle.std.proofs.Common.{sym, subst}
use Rattle.rh_layout.specs.declared.shape.Shape.{Shape}
use Rattle.rh_layout.specs.Shape.{shape_of}
use Rattle.rh_space.specs.Space.{SpaceState, new_object}
use Rattle.rh_place.specs.Mirrors.{Agrees, Mirrors}
use Rattle.layer_tests.proofs.layers.place.Spaces.make.Goals as goal

-- either way the space is the joint's
made : {E : Type 0} (P : SpaceState → Type 0) (r : Result ℕ E) (s s' : SpaceState) (shape : Shape) → IfOk r (λ a. s' ≡ record s { objects = s.objects ++ new_object shape ∷ [] }) → OnErr r (s' ≡ s) → P s → P (record s { objects = s.objects ++ new_object shape ∷ [] }) → P s'
made P (Ok a) s s' shape added kept old new = subst P (sym added) new
made P (Err e) s s' shape added kept old new = subst P (sym kept) old

pub invariant_of-self : goal.invariant_of-self
invariant_of-self g c = (
  made (λ s. Mirrors s c.self.inside.joint) c.bump-made.result c.self.inside.space c.bump-made.new.self (shape_of c.args.fields false) c.bump-made.ensures.added c.bump-made.ensures.unchanged c.self.invariant.0
      (c.from_space_goes_on.ensures.new c.self.inside.space c.self.inside.joint (shape_of c.args.fields false) c.self.invariant.0),
  made (λ s. Agrees s c.self.inside.joint) c.bump-made.result c.self.inside.space c.bump-made.new.self (shape_of c.args.fields false) c.bump-made.ensures.added c.bump-made.ensures.unchanged c.self.invariant.1
      (c.from_space_goes_on.ensures.new_agrees c.self.inside.space c.self.inside.joint (shape_of c.args.fields false) c.self.invariant.0 c.self.invariant.1),
)
