-- A dump as it is put together: each value is numbered as it is met.
use Rattle.std.specs.Prelude.{◌≡◌, ◌<◌, ℕ, zero, suc, List, [], ◌∷◌, ◌++◌, map, length, slice_get, Option, Some}
use Rattle.rh_layout.specs.declared.value.Value.{Value}
use Rattle.rh_layout.specs.declared.value.Value.TheVariants.{Nil, Int, Ref}
use Rattle.rh_layout.specs.declared.command.RootId.{RootId}
use Rattle.rh_layout.specs.declared.shape.Shape.{Shape}
use Rattle.rh_layout.specs.Shape.{shape_of}
use Rattle.rh_model.specs.Graph.{Graph}
use Rattle.rh_dump.specs.Graph.{FlatGraph, empty_flat}
use Rattle.rh_dump.specs.Numbering.{roots_of, with_value, with_values, values_at, kind_at, names_after, numbered_value, numbered_root}

-- values as they are numbered when they are met, after these names
abbrev pub met_values : List ℕ → List Value → List Value
met_values names [] = []
met_values names (v ∷ vs) =
    numbered_value (with_value names v) v ∷ met_values (with_value names v) vs

-- the same of roots
abbrev pub met_roots : List ℕ → List (RootId × Value) → List (RootId × Value)
met_roots names [] = []
met_roots names (root ∷ roots) =
    numbered_root (with_value names root.1) root ∷ met_roots (with_value names root.1) roots

-- the shape of the object with this name, where there is such a name
abbrev pub shape_at : Graph → Option ℕ → Shape
shape_at g name = shape_of (length (values_at g name)) (kind_at g name)

-- the shape of each object, once so many were looked at
abbrev pub shapes_after : Graph → ℕ → List Shape
shapes_after g zero = []
shapes_after g (suc n) = shapes_after g n ++ shape_at g (slice_get (names_after g n) n) ∷ []

-- what their fields hold, numbered, one object after the other
abbrev pub values_after : Graph → ℕ → List Value
values_after g zero = []
values_after g (suc n) =
    values_after g n ++ met_values (names_after g n) (values_at g (slice_get (names_after g n) n))

-- what is stored once so many objects were looked at
abbrev pub flat_after : Graph → ℕ → FlatGraph
flat_after g n = record {
  roots = met_roots [] (roots_of g);
  shapes = shapes_after g n;
  values = values_after g n;
}

-- the number at each position of the list stands at its name
abbrev pub IsIndexOf : List ℕ → List ℕ → Type 0
IsIndexOf numbers names = (k a : ℕ) → slice_get names k ≡ Some a → slice_get numbers a ≡ Some k

-- what is known of a dump that is being put together: what all names are below, the names that were
-- met, and what is stored
pub record NumberingState : Type 0 where
  pub limit : ℕ
  pub names : List ℕ
  pub flat : FlatGraph

-- nothing was met
abbrev pub empty_numbering : ℕ → NumberingState
empty_numbering limit = record { limit = limit; names = []; flat = empty_flat }

-- these roots are put, and what they hold is met
abbrev pub with_roots : NumberingState → List (RootId × Value) → NumberingState
with_roots s roots = record {
  limit = s.limit;
  names = with_values s.names (map (λ (root : RootId × Value). root.1) roots);
  flat = record {
    roots = s.flat.roots ++ met_roots s.names roots;
    shapes = s.flat.shapes;
    values = s.flat.values;
  };
}

-- an object of this shape begins
abbrev pub with_shape : NumberingState → Shape → NumberingState
with_shape s shape = record {
  limit = s.limit;
  names = s.names;
  flat =
      record { roots = s.flat.roots; shapes = s.flat.shapes ++ shape ∷ []; values = s.flat.values };
}

-- these values are put, which fields hold, and met
abbrev pub with_fields : NumberingState → List Value → NumberingState
with_fields s vs = record {
  limit = s.limit;
  names = with_values s.names vs;
  flat = record {
    roots = s.flat.roots;
    shapes = s.flat.shapes;
    values = s.flat.values ++ met_values s.names vs;
  };
}

-- the roots and so many objects were looked at
abbrev pub numbering_after : ℕ → Graph → ℕ → NumberingState
numbering_after limit g n = record { limit = limit; names = names_after g n; flat = flat_after g n }

-- a value refers to a name below the limit, if to any
abbrev pub IsBelow : ℕ → Value → Type 0
IsBelow limit Nil = Unit {0}
IsBelow limit (Int n) = Unit {0}
IsBelow limit (Ref a) = a < limit
