-- The lines of a dump, what each is spelled as, and what is due after each.
use Rattle.std.specs.Prelude.{◌≡◌, ℕ, ◌+◌, ◌-◌, Bool, true, false, nat_lt, ◌==◌, if◌then◌else◌, List, [], ◌∷◌, ◌++◌, length, map, Option, Some, None, codes, decimal, ⊤}
use Rattle.std.specs.Fmt.{signed_decimal}
use Rattle.std.specs.List.{flat_map, AllByRecursion}
use Rattle.rh_layout.specs.declared.value.Value.{Value}
use Rattle.rh_layout.specs.declared.value.Value.TheVariants.{Nil, Int, Ref}
use Rattle.rh_layout.specs.declared.command.RootId.{RootId}
use Rattle.rh_text.specs.Parts.{spell_parts}
use Rattle.rh_text.specs.Root.{root_text}
use Rattle.rh_model.specs.Plain.{PlainObject}
use Rattle.rh_dump.specs.Dump.{GraphState, met_with, met_after}
use Rattle.rh_dump.specs.declared.reading.due.Due.{Due}
use Rattle.rh_dump.specs.declared.reading.due.Due.TheVariants.{Roots, Root, Objects, Object, End, Nothing}
use Rattle.rh_dump.specs.declared.reading.due.Version.{Version}
use Rattle.rh_dump.specs.declared.reading.due.Version.TheVariants.{One, Two}

-- a line of a dump, by what it says
pub data DumpLine : Type 0 where
  header_line : (version : Version) → DumpLine
  roots_line : (count : ℕ) → DumpLine
  root_line : (root : RootId) (value : Value) → DumpLine
  objects_line : (count : ℕ) → DumpLine
  object_line : (number : ℕ) (object : PlainObject) → DumpLine
  end_line : DumpLine

-- nil, a whole number, or @ and the number of an object
abbrev pub value_text : Value → List ℕ
value_text Nil = codes "nil"
value_text (Int n) = signed_decimal n
value_text (Ref k) = 64 ∷ decimal k

-- a version of the text
abbrev pub version_text : Version → List ℕ
version_text One = codes "1"
version_text Two = codes "2"

-- the part that tells a raw object, where it is one
abbrev pub kind_parts : Bool → List (List ℕ)
kind_parts true = codes "raw" ∷ []
kind_parts false = []

-- the parts of a line
abbrev pub dump_line_parts : DumpLine → List (List ℕ)
dump_line_parts (header_line version) = codes "rheap" ∷ version_text version ∷ []
dump_line_parts (roots_line count) = codes "roots" ∷ decimal count ∷ []
dump_line_parts (root_line root value) = root_text root ∷ value_text value ∷ []
dump_line_parts (objects_line count) = codes "objects" ∷ decimal count ∷ []
dump_line_parts (object_line number object) =
    (64 ∷ decimal number) ∷ (kind_parts object.raw ++ (decimal (length object.fields)
    ∷ map value_text object.fields))
dump_line_parts end_line = codes "end" ∷ []

-- the text of a line
abbrev pub spell_dump_line : DumpLine → List ℕ
spell_dump_line line = spell_parts (dump_line_parts line)

-- the lines of roots
abbrev pub root_lines : List (RootId × Value) → List DumpLine
root_lines [] = []
root_lines (root ∷ roots) = root_line root.0 root.1 ∷ root_lines roots

-- the lines of objects that are numbered from this number on
abbrev pub object_lines : ℕ → List PlainObject → List DumpLine
object_lines number [] = []
object_lines number (object ∷ others) = object_line number object ∷ object_lines (number + 1) others

-- the lines of a graph in a version
abbrev pub lines_in : Version → GraphState → List DumpLine
lines_in version g =
    header_line version ∷ roots_line (length g.roots)
    ∷ (root_lines g.roots ++ (objects_line (length g.objects) ∷ (object_lines 0 g.objects
    ++ (end_line ∷ []))))

-- the text of a graph in a version
abbrev pub text_in : Version → GraphState → List ℕ
text_in version g = flat_map spell_dump_line (lines_in version g)

-- The dump text of a graph: version 2 is written.
abbrev pub dump_text : GraphState → List ℕ
dump_text g = text_in Two g

-- a version has objects of this kind: version 1 has no raw ones
abbrev pub HasKind : Version → Bool → Type 0
HasKind One raw = raw ≡ false
HasKind Two raw = ⊤

-- a version can say an object
abbrev pub CanSay : Version → PlainObject → Type 0
CanSay version object = HasKind version object.raw

-- The text is one of the graph: in a version that can say each of its objects.
abbrev pub IsTextOf : List ℕ → GraphState → Type 0
IsTextOf text g =
    (version : Version) × AllByRecursion (CanSay version) g.objects × (text ≡ text_in version g)

-- what is due where so many root lines are
abbrev pub root_due : Version → ℕ → Option RootId → ℕ → Due
root_due version left last met =
    if left == 0 then Objects version met else Root version (left - 1) last met

-- what is due where the objects from this number on are
abbrev pub object_due : Version → ℕ → ℕ → ℕ → Due
object_due version number count met =
    if nat_lt number count then Object version number count met else End

-- what is due after a line
abbrev pub due_after : Due → DumpLine → Due
due_after due (header_line version) = Roots version
due_after (Roots version) (roots_line count) = root_due version count None 0
due_after due (roots_line count) = due
due_after (Root version left last met) (root_line root value) =
    root_due version left (Some root) (met_with met value)
due_after due (root_line root value) = due
due_after (Objects version met) (objects_line count) = object_due version 0 count met
due_after due (objects_line count) = due
due_after (Object version number count met) (object_line own object) =
    object_due version (number + 1) count (met_after met object.fields)
due_after due (object_line own object) = due
due_after due end_line = Nothing
