-- What a text is read as: the graph whose dump it is, or its first fault.
use Rattle.std.specs.Prelude.{ℕ, ◌+◌, Bool, true, List, [], ◌∷◌, ◌++◌, length, fold, Option, Some, None, Result, Ok, Err, nat_lt, ◌==◌, ◌&&◌, ◌||◌, not, if◌then◌else◌, codes}
use Rattle.std.specs.Str.{bytes_eq}
use Rattle.rh_layout.specs.declared.value.Value.{Value}
use Rattle.rh_layout.specs.declared.value.Value.TheVariants.{Nil, Int, Ref}
use Rattle.rh_layout.specs.declared.command.RootId.{RootId}
use Rattle.rh_text.specs.Parts.{parts_of, is_formed, two_parts}
use Rattle.rh_text.specs.RawLine.{RawLine, lines_of, raw_text}
use Rattle.rh_text.specs.Steps.{◌>>=◌, or_fault, with_fault}
use Rattle.rh_model.specs.Plain.{PlainObject}
use Rattle.rh_dump.specs.Dump.{GraphState, met_with}
use Rattle.rh_dump.specs.texts.Line.{DumpLine, header_line, roots_line, root_line, objects_line, object_line, end_line, due_after}
use Rattle.rh_dump.specs.texts.Part.{number_up_to, whole_of, small_root_of, after_at, object_head}
use Rattle.rh_dump.specs.declared.reading.due.Due.{Due}
use Rattle.rh_dump.specs.declared.reading.due.Due.TheVariants as dues
use Rattle.rh_dump.specs.declared.reading.due.Version.{Version}
use Rattle.rh_dump.specs.declared.reading.due.Version.TheVariants.{One, Two}
use Rattle.rh_dump.specs.declared.reading.fault.DumpKind.{DumpKind}
use Rattle.rh_dump.specs.declared.reading.fault.DumpKind.TheVariants.{Long, End, Header, Trailing, Form, Number, Order, Count}
use Rattle.rh_dump.specs.declared.reading.fault.DumpFault.{DumpFault}

-- the parts of a line that is well formed
unfoldable pub formed_parts : List ℕ → Result (List (List ℕ)) DumpKind
formed_parts line = if is_formed line then Ok (parts_of line) else Err Form

-- the part after this keyword, where these two are all
unfoldable pub part_after : List ℕ → List (List ℕ) → Result (List ℕ) DumpKind
part_after keyword parts = do
  two ← or_fault (two_parts parts) Form
  if bytes_eq two.0 keyword then Ok two.1 else Err Form

-- the number up to this limit that a part says
abbrev pub number_or_fault : ℕ → List ℕ → Result ℕ DumpKind
number_or_fault limit part = or_fault (number_up_to limit part) Number

-- `roots R`
unfoldable pub roots_of_parts : List (List ℕ) → Result ℕ DumpKind
roots_of_parts parts = do
  part ← part_after (codes "roots") parts
  number_or_fault 4096 part

-- `objects N`, where so many objects were met
unfoldable pub objects_of_parts : ℕ → List (List ℕ) → Result ℕ DumpKind
objects_of_parts met parts = do
  part ← part_after (codes "objects") parts
  count ← number_or_fault 16777216 part
  if nat_lt count met then Err Count else Ok count

-- a reference to one of so many objects, where so many were met
unfoldable pub reference_or_fault : ℕ → ℕ → List ℕ → Result Value DumpKind
reference_or_fault count met digits = do
  k ← number_or_fault 16777215 digits
  if nat_lt met k then Err Order else if nat_lt k count then Ok (Ref k) else Err Count

-- a whole number
unfoldable pub whole_or_fault : List ℕ → Result Value DumpKind
whole_or_fault part = do
  n ← or_fault (whole_of part) Number
  Ok (Int n)

-- a reference where an @ stands first, and else a whole number
abbrev pub reference_or_whole : ℕ → ℕ → List ℕ → Option (List ℕ) → Result Value DumpKind
reference_or_whole count met part (Some digits) = reference_or_fault count met digits
reference_or_whole count met part None = whole_or_fault part

-- nil, a reference or a whole number
unfoldable pub value_or_fault : ℕ → ℕ → List ℕ → Result Value DumpKind
value_or_fault count met part =
    if bytes_eq part (codes "nil") then Ok Nil
    else reference_or_whole count met part (after_at part)

-- nil or a whole number
unfoldable pub plain_or_fault : List ℕ → Result Value DumpKind
plain_or_fault part = if bytes_eq part (codes "nil") then Ok Nil else whole_or_fault part

-- what a field of an object holds, which may be raw
abbrev pub field_or_fault : Bool → ℕ → ℕ → List ℕ → Result Value DumpKind
field_or_fault raw count met part =
    if raw then plain_or_fault part else value_or_fault count met part

-- what its fields hold, one after the other
unfoldable pub values_or_fault : Bool → ℕ → ℕ → List (List ℕ) → Result (List Value) DumpKind
values_or_fault raw count met [] = Ok []
values_or_fault raw count met (part ∷ parts) = do
  value ← field_or_fault raw count met part
  values ← values_or_fault raw count (met_with met value) parts
  Ok (value ∷ values)

-- whether one root comes before another: by owner, then by slot
abbrev pub is_root_before : RootId → RootId → Bool
is_root_before a b = nat_lt a.owner b.owner || (a.owner == b.owner && nat_lt a.slot b.slot)

-- whether a root comes after the last one, where there is one
abbrev pub is_root_after : Option RootId → RootId → Bool
is_root_after None root = true
is_root_after (Some last) root = is_root_before last root

-- the root that a part says, which comes after the last one
unfoldable pub root_or_fault : Option RootId → List ℕ → Result RootId DumpKind
root_or_fault last part = do
  root ← or_fault (small_root_of part) Number
  if is_root_after last root then Ok root else Err Order

-- a root that isn't nil; how many objects there are isn't known yet, but fewer than a number can
-- say
unfoldable pub root_of_parts : Option RootId → ℕ → List (List ℕ) → Result (RootId × Value) DumpKind
root_of_parts last met parts = do
  two ← or_fault (two_parts parts) Form
  some ← (if bytes_eq two.1 (codes "nil") then Err Form else Ok two.1)
  root ← root_or_fault last two.0
  value ← value_or_fault 16777216 met some
  Ok (root, value)

-- an object's own number, which is the next and was met
unfoldable pub own_number : ℕ → ℕ → List ℕ → Result ℕ DumpKind
own_number number met digits = do
  k ← number_or_fault 16777215 digits
  if not (k == number) then Err Order else if nat_lt number met then Ok k else Err Count

-- the values of so many fields
unfoldable pub fields_or_fault : Bool → ℕ → ℕ → ℕ → List (List ℕ) → Result (List Value) DumpKind
fields_or_fault raw count met fields parts =
    if length parts == fields then values_or_fault raw count met parts else Err Form

-- an object and its number
unfoldable pub object_of_parts : Version → ℕ → ℕ → ℕ → List (List ℕ)
    → Result (ℕ × PlainObject) DumpKind
object_of_parts version number count met parts = do
  head ← or_fault (object_head version parts) Form
  own ← own_number number met head.0
  fields ← number_or_fault 4095 head.2
  values ← fields_or_fault head.1 count met fields head.3
  Ok (own, record { raw = head.1; fields = values })

-- the version that the first line names
unfoldable pub version_or_fault : List ℕ → Result Version DumpKind
version_or_fault line =
    if bytes_eq line (codes "rheap 1") then Ok One
    else if bytes_eq line (codes "rheap 2") then Ok Two
    else Err Header

-- a line with its line end, by what is due
unfoldable pub line_due : Due → List ℕ → Result DumpLine DumpKind
line_due dues.Header line = do
  version ← version_or_fault line
  Ok (header_line version)
line_due (dues.Roots version) line = do
  parts ← formed_parts line
  count ← roots_of_parts parts
  Ok (roots_line count)
line_due (dues.Root version left last met) line = do
  parts ← formed_parts line
  root ← root_of_parts last met parts
  Ok (root_line root.0 root.1)
line_due (dues.Objects version met) line = do
  parts ← formed_parts line
  count ← objects_of_parts met parts
  Ok (objects_line count)
line_due (dues.Object version number count met) line = do
  parts ← formed_parts line
  object ← object_of_parts version number count met parts
  Ok (object_line object.0 object.1)
line_due dues.End line = if bytes_eq line (codes "end") then Ok end_line else Err Form
line_due dues.Nothing line = Err Trailing

-- a raw line, after a text of so many bytes, by its limits and then by what is due, where a text
-- has at most so many bytes
unfoldable pub line_or_kind : ℕ → Due → ℕ → RawLine → Result DumpLine DumpKind
line_or_kind limit due size raw =
    if nat_lt limit (size + length (raw_text raw)) then Err Long
    else if not raw.ended then Err End
    else line_due due raw.bytes

-- the fault of the line of this number
abbrev pub fault_at : ℕ → DumpKind → DumpFault
fault_at number kind = record { line = number; kind = kind }

-- no line is left: it is a fault unless none is due
abbrev pub end_or_fault : ℕ → Due → Result (List DumpLine) DumpFault
end_or_fault number dues.Nothing = Ok []
end_or_fault number due = Err (fault_at number End)

-- the lines from this number on, after a text of so many bytes
unfoldable pub lines_from : ℕ → Due → ℕ → ℕ → List RawLine → Result (List DumpLine) DumpFault
lines_from limit due number size [] = end_or_fault number due
lines_from limit due number size (raw ∷ raws) = do
  line ← with_fault (fault_at number) (line_or_kind limit due size raw)
  lines ← lines_from limit (due_after due line) (number + 1) (size + length (raw_text raw)) raws
  Ok (line ∷ lines)

-- the graph with one line more
abbrev pub with_line : GraphState → DumpLine → GraphState
with_line g (root_line root value) = record g { roots = g.roots ++ (root, value) ∷ [] }
with_line g (object_line number object) = record g { objects = g.objects ++ object ∷ [] }
with_line g line = g

-- the graph of lines
abbrev pub graph_of : List DumpLine → GraphState
graph_of lines = fold with_line (record { roots = []; objects = [] }) lines

-- the graph whose dump a text is, which has at most so many bytes, or its first fault
unfoldable pub graph_within : ℕ → List ℕ → Result GraphState DumpFault
graph_within limit text = do
  lines ← lines_from limit dues.Header 1 0 (lines_of text)
  Ok (graph_of lines)

-- the graph whose dump a text is, which has at most 268,435,456 bytes, or its first fault
abbrev pub graph_of_text : List ℕ → Result GraphState DumpFault
graph_of_text text = graph_within 268435456 text
