-- A graph as it is stored: the fields of all objects one after the other.
use Rattle.std.specs.Prelude.{◌≡◌, ℕ, ◌+◌, List, [], ◌∷◌, length, take, drop}
use Rattle.rh_layout.specs.declared.value.Value.{Value}
use Rattle.rh_layout.specs.declared.command.RootId.{RootId}
use Rattle.rh_layout.specs.declared.shape.Shape.{Shape}
use Rattle.rh_model.specs.Plain.{PlainObject}
use Rattle.rh_dump.specs.Dump.{GraphState}

-- the roots with what they hold, the shape of each object, and what the fields of all objects hold,
-- one after the other
pub record FlatGraph : Type 0 where
  pub roots : List (RootId × Value)
  pub shapes : List Shape
  pub values : List Value

-- the objects whose shapes and values these are
abbrev pub objects_in : List Shape → List Value → List PlainObject
objects_in [] values = []
objects_in (shape ∷ shapes) values =
    record {
      raw = shape.raw;
      fields = take shape.fields values;
    } ∷ objects_in shapes (drop shape.fields values)

-- the graph that is stored so
abbrev pub graph_in : FlatGraph → GraphState
graph_in flat = record { roots = flat.roots; objects = objects_in flat.shapes flat.values }

-- how many fields there are
abbrev pub total : List Shape → ℕ
total [] = 0
total (shape ∷ shapes) = shape.fields + total shapes

-- each value is a field's, and each field has its value
abbrev pub IsFilled : FlatGraph → Type 0
IsFilled flat = total flat.shapes ≡ length flat.values

-- nothing is stored
abbrev pub empty_flat : FlatGraph
empty_flat = record { roots = []; shapes = []; values = [] }
