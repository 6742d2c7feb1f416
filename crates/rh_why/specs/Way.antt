-- The ways on which an object is reached.
use Rattle.std.specs.Prelude.{◌≡◌, ◌<◌, ℕ, List, [], ◌∷◌, Contains, slice_get, Some, length}
use Rattle.rh_layout.specs.declared.value.Value.TheVariants.{Ref}
use Rattle.rh_model.specs.Plain.{PlainObject}
use Rattle.rh_dump.specs.Dump.{GraphState}
use Rattle.rh_why.specs.declared.holder.Holder.{Holder}
use Rattle.rh_why.specs.declared.holder.Holder.TheVariants.{Root, Field}
use Rattle.rh_why.specs.declared.holder.Step.{Step}

-- a root or a field holds a reference to the object of this number
abbrev pub Holds : GraphState → Holder → ℕ → Type 0
Holds g (Root root) to = Contains g.roots (root, Ref to)
Holds g (Field number field) to =
    (object : PlainObject) × (slice_get g.objects number ≡ Some object)
    × (slice_get object.fields field ≡ Some (Ref to))

-- the steps after one that is from this holder: none from a root, and a way to the object of a field
abbrev pub IsWayOn : (ℕ → Type 0) → List Step → Holder → Type 0
IsWayOn is_way steps (Root root) = steps ≡ []
IsWayOn is_way steps (Field number field) = is_way number

-- A way to the object of this number, told from the object up to a root: each step is a reference
-- that is there, to the object that the step before it is from.
abbrev pub IsWayTo : GraphState → List Step → ℕ → Type 0
IsWayTo g [] to = ⊥
IsWayTo g (step ∷ steps) to =
    (step.to ≡ to) × Holds g step.holder to × IsWayOn (IsWayTo g steps) steps step.holder
