-- The text of a heap snapshot: one object of JSON. Its `meta` names the numbers of a node and of an
-- edge, `nodes` and `edges` have these numbers, and `strings` the texts that some of them stand for.
use Rattle.std.specs.Prelude.{ℕ, ◌+◌, ◌*◌, Bool, true, false, List, [], ◌∷◌, ◌++◌, length, map, codes, decimal}
use Rattle.rh_layout.specs.declared.value.Value.{Value}
use Rattle.rh_layout.specs.declared.command.RootId.{RootId}
use Rattle.rh_text.specs.Root.{root_text}
use Rattle.rh_dump.specs.Dump.{GraphState}
use Rattle.rh_snapshot.specs.Snapshot.{SnapshotEdge, from_root, from_field, NodeKind, the_roots, plain, raw, SnapshotNode, root_edges, object_edges, snapshot_nodes, snapshot_edges}

-- texts with a comma and a line end before each, but for the first of all
abbrev pub listed : Bool → List (List ℕ) → List ℕ
listed is_first [] = []
listed true (text ∷ texts) = text ++ listed false texts
listed false (text ∷ texts) = 44 ∷ 10 ∷ (text ++ listed false texts)

-- the first numbers of a node: its type, and its name's position among the strings
abbrev pub kind_text : NodeKind → List ℕ
kind_text the_roots = codes "9,0,"
kind_text plain = codes "3,1,"
kind_text raw = codes "3,2,"

-- the other numbers of a node: its own, its size and its count of edges, and two that are 0
abbrev pub numbers_text : ℕ → ℕ → ℕ → List ℕ
numbers_text id size edges =
    decimal id ++ 44 ∷ (decimal size ++ 44 ∷ (decimal edges ++ codes ",0,0"))

-- the numbers of a node
abbrev pub node_text : SnapshotNode → List ℕ
node_text node = kind_text node.kind ++ numbers_text node.id node.size (length node.edges)

-- where the numbers of an object's node begin: each node has 7, and that of the roots is the first
abbrev pub place_of : ℕ → ℕ
place_of number = (number + 1) * 7

-- the numbers of an edge: its type, its name's position among the strings, where the first three
-- are the names of nodes, or its field, and where the node begins to which it leads
abbrev pub edge_text : SnapshotEdge → List ℕ
edge_text (from_root position to) =
    codes "2," ++ (decimal (position + 3) ++ 44 ∷ decimal (place_of to))
edge_text (from_field field to) = codes "1," ++ (decimal field ++ 44 ∷ decimal (place_of to))

-- whether no edge was written yet, once these are
abbrev pub is_still_first : Bool → List SnapshotEdge → Bool
is_still_first is_first [] = is_first
is_still_first is_first (edge ∷ edges) = false

-- the text of a root's name
abbrev pub root_string : RootId × Value → List ℕ
root_string root = 34 ∷ (root_text root.0 ++ 34 ∷ [])

-- the strings: the names of nodes, then those of roots
abbrev pub strings : GraphState → List (List ℕ)
strings g =
    codes "\"(roots)\"" ∷ codes "\"object\"" ∷ codes "\"raw object\"" ∷ map root_string g.roots

-- what the numbers of nodes and edges are
abbrev pub meta_text : List ℕ
meta_text =
    codes "{\"snapshot\":{\"meta\":{\n"
    ++ (codes "\"node_fields\":[\"type\",\"name\",\"id\",\"self_size\",\"edge_count\","
    ++ (codes "\"trace_node_id\",\"detachedness\"],\n"
    ++ (codes "\"node_types\":[[\"hidden\",\"array\",\"string\",\"object\",\"code\",\"closure\","
    ++ (codes "\"regexp\",\"number\",\"native\",\"synthetic\",\"concatenated string\","
    ++ (codes "\"sliced string\",\"symbol\",\"bigint\",\"object shape\"],\n"
    ++ (codes "\"string\",\"number\",\"number\",\"number\",\"number\",\"number\"],\n"
    ++ (codes "\"edge_fields\":[\"type\",\"name_or_index\",\"to_node\"],\n"
    ++ (codes "\"edge_types\":[[\"context\",\"element\",\"property\",\"internal\",\"hidden\","
    ++ (codes "\"shortcut\",\"weak\"],\"string_or_number\",\"node\"],\n"
    ++ (codes "\"trace_function_info_fields\":[\"function_id\",\"name\",\"script_name\","
    ++ (codes "\"script_id\",\"line\",\"column\"],\n"
    ++ (codes "\"trace_node_fields\":[\"id\",\"function_info_index\",\"count\",\"size\","
    ++ (codes "\"children\"],\n"
    ++ (codes "\"sample_fields\":[\"timestamp_us\",\"last_assigned_id\"],\n"
    ++ codes "\"location_fields\":[\"object_index\",\"script_id\",\"line\",\"column\"]},\n"))))))))))))))

-- how many nodes and edges there are
abbrev pub counts_text : ℕ → ℕ → List ℕ
counts_text nodes edges =
    codes "\"node_count\":" ++ (decimal nodes ++ (codes ",\n\"edge_count\":" ++ (decimal edges
    ++ codes ",\n\"trace_function_count\":0},\n\"nodes\":[")))

-- what a dump has none of
abbrev pub empty_text : List ℕ
empty_text =
    codes "],\n\"trace_function_infos\":[],\n\"trace_tree\":[],\n\"samples\":[],\n"
    ++ codes "\"locations\":[],\n\"strings\":["

-- the parts of the text
abbrev pub nodes_section : GraphState → List ℕ
nodes_section g =
    meta_text ++ (counts_text (length (snapshot_nodes g)) (length (snapshot_edges g))
    ++ listed true (map node_text (snapshot_nodes g)))

-- (what is reached is reached from a root, so that the first edge is a root's where there is one)
abbrev pub edges_section : GraphState → List ℕ
edges_section g =
    codes "],\n\"edges\":[" ++ (listed true (map edge_text (root_edges 0 g.roots))
    ++ listed false (map edge_text (object_edges g.objects)))

abbrev pub strings_section : GraphState → List ℕ
strings_section g = empty_text ++ (listed true (strings g) ++ codes "]}\n")

-- The text of a graph as a heap snapshot.
abbrev pub snapshot_text : GraphState → List ℕ
snapshot_text g = nodes_section g ++ (edges_section g ++ strings_section g)
