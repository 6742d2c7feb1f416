-- The dump of a graph: the objects that are reached from its roots, numbered breadth first.
use Rattle.std.specs.Prelude.{◌<◌, ℕ, zero, suc, Bool, false, ◌==◌, if◌then◌else◌, List, [], ◌∷◌, ◌++◌, map, slice_get, Option, Some, None}
use Rattle.rh_layout.specs.declared.value.Value.{Value}
use Rattle.rh_layout.specs.declared.value.Value.TheVariants.{Nil, Int, Ref}
use Rattle.rh_layout.specs.declared.command.RootId.{RootId}
use Rattle.rh_model.specs.Graph.{Graph, root_value}
use Rattle.rh_model.specs.Effects.{IsObject}
use Rattle.rh_model.specs.Plain.{PlainObject}
use Rattle.rh_model.specs.Reach.{Reached}
use Rattle.rh_dump.specs.Dump.{GraphState}

-- a root with what it holds, unless that is nil
abbrev pub filled_root : RootId → Value → List (RootId × Value)
filled_root r Nil = []
filled_root r (Int n) = (r, Int n) ∷ []
filled_root r (Ref a) = (r, Ref a) ∷ []

-- the roots of an owner below so many slots that aren't nil, where each root holds what is said
abbrev pub filled_slots : (RootId → Value) → ℕ → ℕ → List (RootId × Value)
filled_slots held owner zero = []
filled_slots held owner (suc slots) =
    filled_slots held owner slots
    ++ filled_root (record {
      owner = owner;
      slot = slots;
    }) (held (record { owner = owner; slot = slots }))

-- the same of all owners below so many, owner by owner
abbrev pub filled_roots : (RootId → Value) → ℕ → ℕ → List (RootId × Value)
filled_roots held slots zero = []
filled_roots held slots (suc owners) =
    filled_roots held slots owners ++ filled_slots held owners slots

-- the roots of a graph that aren't nil, in order of owner, then slot, with what they hold
abbrev pub roots_of : Graph → List (RootId × Value)
roots_of g = filled_roots (root_value g) g.slots g.owners

-- the names with one more after them, unless it is among them
abbrev pub with_name : List ℕ → ℕ → List ℕ
with_name [] a = a ∷ []
with_name (b ∷ bs) a = if a == b then b ∷ bs else b ∷ with_name bs a

-- the names once a value is met: what it refers to takes the next position
abbrev pub with_value : List ℕ → Value → List ℕ
with_value names Nil = names
with_value names (Int n) = names
with_value names (Ref a) = with_name names a

-- the names once these values are met, in order
abbrev pub with_values : List ℕ → List Value → List ℕ
with_values names [] = names
with_values names (v ∷ vs) = with_values (with_value names v) vs

-- what the fields of an object hold
abbrev pub values_in : Option (List Value) → List Value
values_in None = []
values_in (Some fields) = fields

-- what the fields of the object with this name hold, where there is such a name
abbrev pub values_at : Graph → Option ℕ → List Value
values_at g None = []
values_at g (Some a) = values_in (g.fields a)

-- whether the object with this name is raw, where there is such a name
abbrev pub kind_at : Graph → Option ℕ → Bool
kind_at g None = false
kind_at g (Some a) = g.raw a

-- The names of the objects met, in order of first meeting, once the roots were looked at, and then
-- so many objects in order of their numbers: the position of a name is the number of its object.
abbrev pub names_after : Graph → ℕ → List ℕ
names_after g zero = with_values [] (map (λ (root : RootId × Value). root.1) (roots_of g))
names_after g (suc n) =
    with_values (names_after g n) (values_at g (slice_get (names_after g n) n))

-- the number of the object with this name: its position, and how many there are where it has none
abbrev pub number_in : List ℕ → ℕ → ℕ
number_in [] a = 0
number_in (b ∷ bs) a = if a == b then 0 else suc (number_in bs a)

-- a value with the number of an object in place of its name
abbrev pub numbered_value : List ℕ → Value → Value
numbered_value names Nil = Nil
numbered_value names (Int n) = Int n
numbered_value names (Ref a) = Ref (number_in names a)

-- a root with its value numbered
abbrev pub numbered_root : List ℕ → RootId × Value → RootId × Value
numbered_root names root = (root.0, numbered_value names root.1)

-- the object with this name, with its values numbered
abbrev pub numbered_object : Graph → List ℕ → ℕ → PlainObject
numbered_object g names a =
    record { raw = g.raw a; fields = map (numbered_value names) (values_in (g.fields a)) }

-- the dump of a graph whose objects have these names, in order of their numbers
abbrev pub dump_by : Graph → List ℕ → GraphState
dump_by g names = record {
  roots = map (numbered_root names) (roots_of g);
  objects = map (numbered_object g names) names;
}

-- The dump of a graph that reaches only names below a limit: so many objects are looked at, which
-- are all that there can be.
abbrev pub dump_below : ℕ → Graph → GraphState
dump_below limit g = dump_by g (names_after g limit)

-- What is reached are objects, whose names are below a limit. So there are finitely many.
abbrev pub ReachesObjectsBelow : ℕ → Graph → Type 0
ReachesObjectsBelow limit g = (a : ℕ) → Reached g a → IsObject g a × (a < limit)
