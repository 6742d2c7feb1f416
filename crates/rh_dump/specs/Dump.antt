-- What a dump says of a heap: its roots, and its objects by their numbers.
use Rattle.std.specs.Prelude.{◌≡◌, ◌≢◌, ℕ, ◌+◌, ◌<◌, ◌≤◌, ◌⊎◌, ⊤, true, false, nat_lt, if◌then◌else◌, List, [], ◌∷◌, ◌++◌, length, map, Option, Some, None}
use Rattle.std.specs.List.{flat_map, AllByRecursion}
use Rattle.rh_layout.specs.declared.value.Value.{Value}
use Rattle.rh_layout.specs.declared.value.Value.TheVariants.{Nil, Int, Ref}
use Rattle.rh_layout.specs.declared.command.RootId.{RootId}
use Rattle.rh_layout.specs.Value.{is_reference}
use Rattle.rh_layout.specs.Word.{IsWhole}
use Rattle.rh_model.specs.Plain.{PlainObject}

-- The roots that aren't nil, each with what it holds, and for each object, in order of its number,
-- whether it is raw and what its fields hold. A reference is to the object of that number.
pub record GraphState : Type 0 where
  pub roots : List (RootId × Value)
  pub objects : List PlainObject

-- what the roots hold, in order
abbrev pub root_values : List (RootId × Value) → List Value
root_values roots = map (λ root. root.1) roots

-- all values in the order of the text: those of the roots, then those of each object's fields
abbrev pub values_of : GraphState → List Value
values_of g = root_values g.roots ++ flat_map (λ object. object.fields) g.objects

-- how many objects are met with this value, where so many were met before it: a reference meets the
-- objects up to its own
abbrev pub met_with : ℕ → Value → ℕ
met_with met Nil = met
met_with met (Int n) = met
met_with met (Ref k) = if nat_lt k met then met else k + 1

-- how many objects are met with these values, where so many were met before them
abbrev pub met_after : ℕ → List Value → ℕ
met_after met [] = met
met_after met (value ∷ values) = met_after (met_with met value) values

-- a reference is to an object that was met, or to the next one
abbrev pub IsNumberedAfter : ℕ → Value → Type 0
IsNumberedAfter met Nil = ⊤
IsNumberedAfter met (Int n) = ⊤
IsNumberedAfter met (Ref k) = k ≤ met

-- each reference is at most one above all references before it, where so many objects were met
-- before the first value
abbrev pub AreNumbered : ℕ → List Value → Type 0
AreNumbered met [] = ⊤
AreNumbered met (value ∷ values) =
    IsNumberedAfter met value × AreNumbered (met_with met value) values

-- each object, numbered from this number on, is met before its own fields, where so many were met
-- before those of the first
abbrev pub AreMetBefore : ℕ → ℕ → List PlainObject → Type 0
AreMetBefore number met [] = ⊤
AreMetBefore number met (object ∷ others) =
    (number < met) × AreMetBefore (number + 1) (met_after met object.fields) others

-- a value that a text can say: a whole number has a word
abbrev pub IsTold : Value → Type 0
IsTold Nil = ⊤
IsTold (Int n) = IsWhole n
IsTold (Ref k) = ⊤

-- a root within the limits of owners and slots, that isn't nil
abbrev pub IsRootTold : RootId × Value → Type 0
IsRootTold root = (root.0.owner < 16) × (root.0.slot < 256) × (root.1 ≢ Nil) × IsTold root.1

-- one root comes before another: by owner, then by slot
abbrev pub IsRootBefore : RootId → RootId → Type 0
IsRootBefore a b = (a.owner < b.owner) ⊎ ((a.owner ≡ b.owner) × (a.slot < b.slot))

-- a root comes after the last one, where there is one
abbrev pub IsRootAfter : Option RootId → RootId → Type 0
IsRootAfter None root = ⊤
IsRootAfter (Some last) root = IsRootBefore last root

-- each root comes after the one before it, and the first after the last one, where there is one
abbrev pub RootsRise : Option RootId → List (RootId × Value) → Type 0
RootsRise last [] = ⊤
RootsRise last (root ∷ roots) = IsRootAfter last root.0 × RootsRise (Some root.0) roots

-- a value that a raw object may hold
abbrev pub IsUnreferring : Value → Type 0
IsUnreferring value = is_reference value ≡ false

-- an object's fields are at most 4,095, each can be told, and those of a raw one are no references
pub record IsObjectTold (object : PlainObject) : Type 0 where
  pub few : length object.fields ≤ 4095
  pub told : AllByRecursion IsTold object.fields
  pub raw : object.raw ≡ true → AllByRecursion IsUnreferring object.fields

-- What every graph keeps: its roots stand in order, its objects are numbered breadth first, and all
-- of them are met.
pub record IsGraph (g : GraphState) : Type 0 where
  pub roots : AllByRecursion IsRootTold g.roots
  pub roots_rise : RootsRise None g.roots
  pub objects : AllByRecursion IsObjectTold g.objects
  pub few_objects : length g.objects ≤ 16777216
  pub numbered : AreNumbered 0 (values_of g)
  pub met_before : AreMetBefore 0 (met_after 0 (root_values g.roots)) g.objects
  pub all_met : met_after 0 (values_of g) ≡ length g.objects
