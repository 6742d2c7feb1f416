-- When each fault holds of a text, in the order of the format. No reader is named here.
use Rattle.std.specs.Prelude.{◌≡◌, ◌≢◌, ℕ, ◌+◌, ◌<◌, ◌≤◌, ◌⊎◌, ⊤, Bool, true, false, if◌then◌else◌, List, [], ◌∷◌, length, Option, Some, None, codes, decimal, ℤ}
use Rattle.std.specs.Fmt.{signed_decimal}
use Rattle.std.specs.Str.{bytes_eq}
use Rattle.rh_layout.specs.declared.value.Value.TheVariants.{Ref}
use Rattle.rh_layout.specs.declared.command.RootId.{RootId}
use Rattle.rh_layout.specs.Word.{IsWhole}
use Rattle.rh_text.specs.RawLine.{RawLine, raw_text}
use Rattle.rh_text.specs.Number.{number_of}
use Rattle.rh_text.specs.Parts.{parts_of, IsFormedLine}
use Rattle.rh_text.specs.Root.{root_of, root_text}
use Rattle.rh_text.specs.Stages.{◌when◌, no_fault, ◌▸◌}
use Rattle.rh_dump.specs.Dump.{met_with, IsRootAfter}
use Rattle.rh_dump.specs.texts.Line.{root_due, object_due}
use Rattle.rh_dump.specs.texts.Part.{kind_and_rest, reference_of}
use Rattle.rh_dump.specs.declared.reading.due.Due.{Due}
use Rattle.rh_dump.specs.declared.reading.due.Due.TheVariants as dues
use Rattle.rh_dump.specs.declared.reading.due.Version.{Version}
use Rattle.rh_dump.specs.declared.reading.due.Version.TheVariants.{One, Two}
use Rattle.rh_dump.specs.declared.reading.fault.DumpKind.{DumpKind}
use Rattle.rh_dump.specs.declared.reading.fault.DumpKind.TheVariants.{Long, End, Header, Trailing, Form, Number, Order, Count}

-- ---- what is due, by the lines before

-- how many objects are met with what a part refers to, where so many were met before it
abbrev pub met_with_reference : ℕ → Option ℕ → ℕ
met_with_reference met None = met
met_with_reference met (Some k) = met_with met (Ref k)

-- how many objects are met with a part that may be a reference, where so many were met before it
abbrev pub met_with_part : ℕ → List ℕ → ℕ
met_with_part met part = met_with_reference met (reference_of part)

-- how many objects are met with these parts, where so many were met before them
abbrev pub met_with_parts : ℕ → List (List ℕ) → ℕ
met_with_parts met [] = met
met_with_parts met (part ∷ parts) = met_with_parts (met_with_part met part) parts

-- the number that a part says, and 0 where it says none
abbrev pub number_or_none : Option ℕ → ℕ
number_or_none None = 0
number_or_none (Some n) = n

-- the version that the first line names, where it names one
abbrev pub version_named : List (List ℕ) → Version
version_named (word ∷ version ∷ []) = if bytes_eq version (codes "1") then One else Two
version_named parts = Two

-- the parts after the one that tells how many fields there are
abbrev pub value_parts : List (List ℕ) → List (List ℕ)
value_parts [] = []
value_parts (fields ∷ values) = values

-- what is due after a line of these parts
abbrev pub due_after_parts : Due → List (List ℕ) → Due
due_after_parts dues.Header parts = dues.Roots (version_named parts)
due_after_parts (dues.Roots version) (keyword ∷ count ∷ []) =
    root_due version (number_or_none (number_of count)) None 0
due_after_parts (dues.Root version left last met) (root ∷ value ∷ []) =
    root_due version left (root_of root) (met_with_part met value)
due_after_parts (dues.Objects version met) (keyword ∷ count ∷ []) =
    object_due version 0 (number_or_none (number_of count)) met
due_after_parts (dues.Object version number count met) (own ∷ others) =
    object_due version (number + 1) count
    (met_with_parts met (value_parts (kind_and_rest version others).1))
due_after_parts due parts = dues.Nothing

-- ---- what the parts of a line may be

-- the part is the decimal of a number up to this limit
abbrev pub IsNumberUpTo : ℕ → List ℕ → Type 0
IsNumberUpTo limit part = (n : ℕ) × (n ≤ limit) × (part ≡ decimal n)

-- the part is the decimal of a whole number that has a word
abbrev pub IsWholePart : List ℕ → Type 0
IsWholePart part = (n : ℤ) × IsWhole n × (part ≡ signed_decimal n)

-- the part is OWNER.SLOT, an owner below 16 and a slot below 256
abbrev pub IsRootPart : List ℕ → RootId → Type 0
IsRootPart part root = (root.owner < 16) × (root.slot < 256) × (part ≡ root_text root)

-- the part is @ and the decimal of the number, which is at most 16,777,215
abbrev pub RefersTo : List ℕ → ℕ → Type 0
RefersTo part k = (k ≤ 16777215) × (part ≡ 64 ∷ decimal k)

-- the part begins with @
abbrev pub BeginsWithAt : List ℕ → Type 0
BeginsWithAt [] = ⊥
BeginsWithAt (b ∷ bs) = b ≡ 64

-- ---- the faults of a line

-- of a value, where so many objects are and so many were met, and then others
abbrev pub value_faults : ℕ → ℕ → List ℕ → (ℕ → DumpKind → Type 0) → ℕ → DumpKind → Type 0
value_faults count met part others =
    Number when ((part ≢ codes "nil") × (¬ ((k : ℕ) × RefersTo part k)) × (¬ IsWholePart part))
    ▸ Order when ((k : ℕ) × RefersTo part k × (met < k))
    ▸ Count when ((k : ℕ) × RefersTo part k × (count ≤ k))
    ▸ others

-- of a value of an object that may be raw: no reference stands in a raw one
abbrev pub field_faults : Bool → ℕ → ℕ → List ℕ → (ℕ → DumpKind → Type 0)
    → ℕ → DumpKind → Type 0
field_faults true count met part others =
    Number when ((part ≢ codes "nil") × (¬ IsWholePart part)) ▸ others
field_faults false count met part others = value_faults count met part others

-- of values, one after the other
abbrev pub values_faults : Bool → ℕ → ℕ → List (List ℕ) → ℕ → DumpKind → Type 0
values_faults raw count met [] = no_fault
values_faults raw count met (part ∷ parts) =
    field_faults raw count met part (values_faults raw count (met_with_part met part) parts)

-- of a line that tells a number up to a limit, and at least how many objects were met
abbrev pub count_faults : List ℕ → ℕ → ℕ → List (List ℕ) → ℕ → DumpKind → Type 0
count_faults keyword limit met (first ∷ count ∷ []) =
    Form when (first ≢ keyword)
    ▸ Number when (¬ IsNumberUpTo limit count)
    ▸ Count when ((n : ℕ) × (n < met) × (count ≡ decimal n))
    ▸ no_fault
count_faults keyword limit met parts = Form when ⊤ ▸ no_fault

-- of a root's line
abbrev pub root_faults : Option RootId → ℕ → List (List ℕ) → ℕ → DumpKind → Type 0
root_faults last met (root ∷ value ∷ []) =
    Form when (value ≡ codes "nil")
    ▸ Number when (¬ ((r : RootId) × IsRootPart root r))
    ▸ Order when ((r : RootId) × IsRootPart root r × (¬ IsRootAfter last r))
    ▸ value_faults 16777216 met value no_fault
root_faults last met parts = Form when ⊤ ▸ no_fault

-- of an object's line, by its first part, whether the object is raw, and the parts after that: how
-- many values follow is looked at after the object's number and how many fields it has
abbrev pub object_part_faults : ℕ → ℕ → ℕ → List ℕ → Bool → List (List ℕ) → ℕ → DumpKind → Type 0
object_part_faults number count met own raw (fields ∷ values) =
    Form when (¬ BeginsWithAt own)
    ▸ Number when (¬ ((k : ℕ) × RefersTo own k))
    ▸ Order when ((k : ℕ) × RefersTo own k × (k ≢ number))
    ▸ Count when (met ≤ number)
    ▸ Number when (¬ IsNumberUpTo 4095 fields)
    ▸ Form when (¬ ((fields ≡ decimal (length values)) × (length values ≤ 4095)))
    ▸ values_faults raw count met values
object_part_faults number count met own raw [] = Form when ⊤ ▸ no_fault

-- of an object's line
abbrev pub object_faults : Version → ℕ → ℕ → ℕ → List (List ℕ) → ℕ → DumpKind → Type 0
object_faults version number count met (own ∷ others) =
    object_part_faults number count met own (kind_and_rest version others).0
    (kind_and_rest version others).1
object_faults version number count met [] = Form when ⊤ ▸ no_fault

-- of a line with its line end, by what is due
abbrev pub due_faults : Due → List ℕ → ℕ → DumpKind → Type 0
due_faults dues.Header line =
    Header when ((line ≢ codes "rheap 1") × (line ≢ codes "rheap 2")) ▸ no_fault
due_faults (dues.Roots version) line =
    Form when (¬ IsFormedLine line) ▸ count_faults (codes "roots") 4096 0 (parts_of line)
due_faults (dues.Root version left last met) line =
    Form when (¬ IsFormedLine line) ▸ root_faults last met (parts_of line)
due_faults (dues.Objects version met) line =
    Form when (¬ IsFormedLine line) ▸ count_faults (codes "objects") 16777216 met (parts_of line)
due_faults (dues.Object version number count met) line =
    Form when (¬ IsFormedLine line) ▸ object_faults version number count met (parts_of line)
due_faults dues.End line = Form when (line ≢ codes "end") ▸ no_fault
due_faults dues.Nothing line = Trailing when ⊤ ▸ no_fault

-- of a raw line, after a text of so many bytes
abbrev pub line_faults : Due → ℕ → RawLine → ℕ → DumpKind → Type 0
line_faults due size raw =
    Long when (268435456 < size + length (raw_text raw))
    ▸ End when (raw.ended ≡ false)
    ▸ due_faults due raw.bytes

-- ---- the faults of a text

-- no line is left, and one is due
abbrev pub end_faults : Due → ℕ → ℕ → ℕ → DumpKind → Type 0
end_faults dues.Nothing number line stage kind = ⊥
end_faults due number line stage kind = (line ≡ number) × (stage ≡ 0) × (kind ≡ End)

-- of the raw lines from this number on, after a text of so many bytes, each on its line and at its
-- stage there
abbrev pub faults_from : Due → ℕ → ℕ → List RawLine → ℕ → ℕ → DumpKind → Type 0
faults_from due number size [] line stage kind = end_faults due number line stage kind
faults_from due number size (raw ∷ raws) line stage kind =
    ((line ≡ number) × line_faults due size raw stage kind)
    ⊎ faults_from (due_after_parts due (parts_of raw.bytes)) (number + 1)
    (size + length (raw_text raw)) raws line stage kind

-- of a text of these lines
abbrev pub dump_faults : List RawLine → ℕ → ℕ → DumpKind → Type 0
dump_faults raws = faults_from dues.Header 1 0 raws
