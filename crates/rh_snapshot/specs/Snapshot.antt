-- A heap snapshot: the nodes that a graph has in it, each with its edges.
use Rattle.std.specs.Prelude.{ℕ, ◌+◌, ◌*◌, Bool, true, false, List, [], ◌∷◌, ◌++◌, length}
use Rattle.std.specs.List.{flat_map}
use Rattle.rh_layout.specs.declared.value.Value.{Value}
use Rattle.rh_layout.specs.declared.value.Value.TheVariants.{Nil, Int, Ref}
use Rattle.rh_layout.specs.declared.command.RootId.{RootId}
use Rattle.rh_layout.specs.Value.{is_reference}
use Rattle.rh_model.specs.Plain.{PlainObject}
use Rattle.rh_dump.specs.Dump.{GraphState}

-- an edge to the object of this number: from the root at this position among those that aren't nil,
-- or from the field of this number
pub data SnapshotEdge : Type 0 where
  from_root : (position to : ℕ) → SnapshotEdge
  from_field : (field to : ℕ) → SnapshotEdge

-- what a node is: the one that holds the roots, or an object, raw or not
pub data NodeKind : Type 0 where
  the_roots : NodeKind
  plain : NodeKind
  raw : NodeKind

-- a node: what it is, its own number, its size in bytes, and the edges that go out from it
pub record SnapshotNode : Type 0 where
  pub kind : NodeKind
  pub id : ℕ
  pub size : ℕ
  pub edges : List SnapshotEdge

-- whether a root holds a reference
abbrev pub holds_reference : RootId × Value → Bool
holds_reference root = is_reference root.1

-- the edge of a root, where it holds a reference
abbrev pub root_edge : ℕ → Value → List SnapshotEdge
root_edge position Nil = []
root_edge position (Int n) = []
root_edge position (Ref to) = from_root position to ∷ []

-- the edge of a field, where it holds a reference
abbrev pub field_edge : ℕ → Value → List SnapshotEdge
field_edge field Nil = []
field_edge field (Int n) = []
field_edge field (Ref to) = from_field field to ∷ []

-- the edges of roots that stand from this position on
abbrev pub root_edges : ℕ → List (RootId × Value) → List SnapshotEdge
root_edges position [] = []
root_edges position (root ∷ roots) = root_edge position root.1 ++ root_edges (position + 1) roots

-- the edges of fields that are numbered from this number on
abbrev pub field_edges : ℕ → List Value → List SnapshotEdge
field_edges field [] = []
field_edges field (value ∷ values) = field_edge field value ++ field_edges (field + 1) values

-- the edges of the fields of objects
abbrev pub object_edges : List PlainObject → List SnapshotEdge
object_edges objects = flat_map (λ object. field_edges 0 object.fields) objects

abbrev pub kind_of : Bool → NodeKind
kind_of false = plain
kind_of true = raw

-- the bytes that an object takes in a space: 16 for each of its words, which are its fields and two
-- more
abbrev pub object_bytes : ℕ → ℕ
object_bytes fields = (fields + 2) * 16

-- the node of an object: its number is the object's
abbrev pub object_node : ℕ → PlainObject → SnapshotNode
object_node number object = record {
  kind = kind_of object.raw;
  id = number;
  size = object_bytes (length object.fields);
  edges = field_edges 0 object.fields;
}

-- the nodes of objects that are numbered from this number on
abbrev pub object_nodes : ℕ → List PlainObject → List SnapshotNode
object_nodes number [] = []
object_nodes number (object ∷ others) =
    object_node number object ∷ object_nodes (number + 1) others

-- the node that holds the roots: its number is the one after those of all objects
abbrev pub roots_node : GraphState → SnapshotNode
roots_node g = record {
  kind = the_roots;
  id = length g.objects;
  size = 0;
  edges = root_edges 0 g.roots;
}

-- The nodes of a graph: that of the roots, then those of the objects, in order of their numbers.
abbrev pub snapshot_nodes : GraphState → List SnapshotNode
snapshot_nodes g = roots_node g ∷ object_nodes 0 g.objects

-- The edges of a graph: those of each node, node after node.
abbrev pub snapshot_edges : GraphState → List SnapshotEdge
snapshot_edges g = flat_map (λ node. node.edges) (snapshot_nodes g)
