-- How many nodes and edges there are.
use Rattle.std.proofs.Common.{◌≡◌, ℕ, suc, ◌+◌, List, [], ◌∷◌, ◌++◌, length, refl, sym, ap, ◌∙◌, arith}
use Rattle.std.specs.List.{flat_map, filter}
use Rattle.std.proofs.lemmas.List.{length-append}
use Rattle.std.proofs.lemmas.List.Elements.{filter-append}
use Rattle.rh_layout.specs.declared.value.Value.{Value}
use Rattle.rh_layout.specs.declared.value.Value.TheVariants.{Nil, Int, Ref}
use Rattle.rh_layout.specs.Value.{is_reference}
use Rattle.rh_layout.specs.declared.command.RootId.{RootId}
use Rattle.rh_model.specs.Plain.{PlainObject}
use Rattle.rh_dump.specs.Dump.{GraphState, root_values, values_of}
use Rattle.rh_snapshot.specs.Snapshot.{SnapshotEdge, SnapshotNode, field_edge, field_edges, holds_reference, object_edges, object_nodes, root_edge, root_edges, snapshot_edges, snapshot_nodes}

-- how many references there are
abbrev pub references : List Value → ℕ
references values = length (filter is_reference values)

pub references-append : (xs ys : List Value) → references (xs ++ ys) ≡ references xs + references ys
references-append xs ys = ap length (filter-append is_reference xs ys) ∙ length-append (filter is_reference xs) (filter is_reference ys)

pub fields_count : (field : ℕ) (values : List Value) → length (field_edges field values) ≡ references values
fields_count field [] = refl
fields_count field (Nil ∷ values) = fields_count (field + 1) values
fields_count field (Int n ∷ values) = fields_count (field + 1) values
fields_count field (Ref to ∷ values) = ap suc (fields_count (field + 1) values)

pub roots_count : (position : ℕ) (roots : List (RootId × Value)) → length (root_edges position roots) ≡ length (filter holds_reference roots)
roots_count position [] = refl
roots_count position ((root, Nil) ∷ roots) = roots_count (position + 1) roots
roots_count position ((root, Int n) ∷ roots) = roots_count (position + 1) roots
roots_count position ((root, Ref to) ∷ roots) = ap suc (roots_count (position + 1) roots)

pub roots_hold : (roots : List (RootId × Value)) → length (filter holds_reference roots) ≡ references (root_values roots)
roots_hold [] = refl
roots_hold ((root, Nil) ∷ roots) = roots_hold roots
roots_hold ((root, Int n) ∷ roots) = roots_hold roots
roots_hold ((root, Ref to) ∷ roots) = ap suc (roots_hold roots)

pub objects_count : (objects : List PlainObject) → length (object_edges objects) ≡ references (flat_map (λ object. object.fields) objects)
objects_count [] = refl
objects_count (object ∷ others) =
    let all : length (field_edges 0 object.fields ++ object_edges others) ≡ length (field_edges 0 object.fields) + length (object_edges others) = length-append (field_edges 0 object.fields) (object_edges others) in
    let sum : references (object.fields ++ flat_map (λ (o : PlainObject). o.fields) others) ≡ references object.fields + references (flat_map (λ (o : PlainObject). o.fields) others) = references-append object.fields (flat_map (λ (o : PlainObject). o.fields) others) in
    omega (arith, all, fields_count 0 object.fields, objects_count others, sum)

-- the edges of the nodes of objects are those of their fields
pub edges_of-nodes : (number : ℕ) (objects : List PlainObject) → flat_map (λ (node : SnapshotNode). node.edges) (object_nodes number objects) ≡ object_edges objects
edges_of-nodes number [] = refl
edges_of-nodes number (object ∷ others) = ap (λ (e : List SnapshotEdge). field_edges 0 object.fields ++ e) (edges_of-nodes (number + 1) others)

pub snapshot_edges-are : (g : GraphState) → snapshot_edges g ≡ root_edges 0 g.roots ++ object_edges g.objects
snapshot_edges-are g = ap (λ (e : List SnapshotEdge). root_edges 0 g.roots ++ e) (edges_of-nodes 0 g.objects)

pub edges_count : (g : GraphState) → length (snapshot_edges g) ≡ length (filter holds_reference g.roots) + references (flat_map (λ object. object.fields) g.objects)
edges_count g =
    let all = ap length (snapshot_edges-are g) ∙ length-append (root_edges 0 g.roots) (object_edges g.objects) in
    let roots = roots_count 0 g.roots in
    let objects = objects_count g.objects in
    omega (arith, all, roots, objects)

pub edges_are_references : (g : GraphState) → length (snapshot_edges g) ≡ length (filter is_reference (values_of g))
edges_are_references g =
    let roots = roots_hold g.roots in
    let sum = references-append (root_values g.roots) (flat_map (λ (o : PlainObject). o.fields) g.objects) in
    omega (arith, edges_count g, roots, sum)

pub nodes_count : (number : ℕ) (objects : List PlainObject) → length (object_nodes number objects) ≡ length objects
nodes_count number [] = refl
nodes_count number (object ∷ others) = ap suc (nodes_count (number + 1) others)

pub all_nodes_count : (g : GraphState) → length (snapshot_nodes g) ≡ length g.objects + 1
all_nodes_count g = let nodes = nodes_count 0 g.objects in omega (arith, nodes)
