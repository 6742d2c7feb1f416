-- The text of a graph for Graphviz: its lines, and what each is spelled as. The texts between quotes
-- are made of digits, @, -, dots, blanks, the signs of cells, and nil, so that none needs an escape.
use Rattle.std.specs.Prelude.{ℕ, ◌+◌, Bool, true, false, List, [], ◌∷◌, ◌++◌, codes, decimal}
use Rattle.std.specs.List.{flat_map}
use Rattle.rh_layout.specs.declared.value.Value.{Value}
use Rattle.rh_layout.specs.declared.value.Value.TheVariants.{Nil, Int, Ref}
use Rattle.rh_layout.specs.declared.command.RootId.{RootId}
use Rattle.rh_text.specs.Root.{root_text}
use Rattle.rh_model.specs.Plain.{PlainObject}
use Rattle.rh_dump.specs.Dump.{GraphState}
use Rattle.rh_dump.specs.texts.Line.{value_text}

-- a line of the text, by what it says
pub data DotLine : Type 0 where
  open_line : DotLine
  root_node : (root : RootId) (value : Value) → DotLine
  root_edge : (root : RootId) (to : ℕ) → DotLine
  object_node : (number : ℕ) (object : PlainObject) → DotLine
  field_edge : (number field to : ℕ) → DotLine
  close_line : DotLine

-- the shape of an object's node: a plain one has corners, a raw one is round
abbrev pub kind_text : Bool → List ℕ
kind_text false = codes "record"
kind_text true = codes "Mrecord"

-- the part of an object's node before its fields
abbrev pub object_head_text : ℕ → Bool → List ℕ
object_head_text number raw =
    codes "\"@" ++ (decimal number ++ (codes "\" [shape=" ++ (kind_text raw
    ++ (codes " label=\"@" ++ decimal number))))

-- a field of an object's node: its number, from which its edge goes out, and what it holds
abbrev pub cell_text : ℕ → Value → List ℕ
cell_text field value = codes "|<" ++ (decimal field ++ 62 ∷ value_text value)

-- the fields of an object's node, numbered from this one on
abbrev pub cells_text : ℕ → List Value → List ℕ
cells_text field [] = []
cells_text field (value ∷ values) = cell_text field value ++ cells_text (field + 1) values

-- the text of a line, without its line end
abbrev pub dot_line_text : DotLine → List ℕ
dot_line_text open_line = codes "digraph rheap { rankdir=LR"
dot_line_text (root_node root value) =
    codes "{ rank=source \"" ++ (root_text root ++ (codes "\" [shape=box label=\""
    ++ (root_text root ++ 32 ∷ (value_text value ++ codes "\"] }"))))
dot_line_text (root_edge root to) =
    34 ∷ (root_text root ++ (codes "\" -> \"@" ++ (decimal to ++ 34 ∷ [])))
dot_line_text (object_node number object) =
    object_head_text number object.raw ++ (cells_text 0 object.fields ++ codes "\"]")
dot_line_text (field_edge number field to) =
    codes "\"@" ++ (decimal number ++ (codes "\":" ++ (decimal field ++ (codes " -> \"@"
    ++ (decimal to ++ 34 ∷ [])))))
dot_line_text close_line = codes "}"

-- the text of a line
abbrev pub spell_dot_line : DotLine → List ℕ
spell_dot_line line = dot_line_text line ++ 10 ∷ []

-- the edge of a root, where it holds a reference
abbrev pub root_edges : RootId → Value → List DotLine
root_edges root Nil = []
root_edges root (Int n) = []
root_edges root (Ref to) = root_edge root to ∷ []

-- the edge of a field, where it holds a reference
abbrev pub edges_of : ℕ → ℕ → Value → List DotLine
edges_of number field Nil = []
edges_of number field (Int n) = []
edges_of number field (Ref to) = field_edge number field to ∷ []

-- the lines of a root
abbrev pub root_lines : RootId × Value → List DotLine
root_lines root = root_node root.0 root.1 ∷ root_edges root.0 root.1

-- the edges of an object's fields, numbered from this one on
abbrev pub field_edges : ℕ → ℕ → List Value → List DotLine
field_edges number field [] = []
field_edges number field (value ∷ values) =
    edges_of number field value ++ field_edges number (field + 1) values

-- the lines of objects that are numbered from this number on
abbrev pub object_lines : ℕ → List PlainObject → List DotLine
object_lines number [] = []
object_lines number (object ∷ others) =
    object_node number object
    ∷ (field_edges number 0 object.fields ++ object_lines (number + 1) others)

-- the lines of a graph
abbrev pub dot_lines : GraphState → List DotLine
dot_lines g =
    open_line ∷ (flat_map root_lines g.roots ++ (object_lines 0 g.objects ++ close_line ∷ []))

-- The text of a graph for Graphviz.
abbrev pub dot_text : GraphState → List ℕ
dot_text g = flat_map spell_dot_line (dot_lines g)
