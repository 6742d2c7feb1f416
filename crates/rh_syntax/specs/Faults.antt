-- When each fault holds of a trace's text, in the order of the format. No reader is named here.
use Rattle.std.specs.Prelude.{◌≡◌, ◌≢◌, ℕ, ◌<◌, ◌≤◌, ◌⊎◌, ⊤, false, List, [], ◌∷◌, length, Option, Some, None, if◌then◌else◌, codes, decimal, ℤ}
use Rattle.std.specs.Fmt.{signed_decimal}
use Rattle.std.specs.Str.{bytes_eq}
use Rattle.rh_layout.specs.declared.command.RootId.{RootId}
use Rattle.rh_text.specs.RawLine.{RawLine}
use Rattle.rh_text.specs.Parts.{parts_of, IsFormedLine}
use Rattle.rh_text.specs.Number.{IsU32, IsI64}
use Rattle.rh_text.specs.Root.{root_text, RootFits}
use Rattle.rh_text.specs.Stages.{◌when◌, no_fault, ◌▸◌, in_lines}
use Rattle.rh_syntax.specs.TrayName.{IsTrayName}
use Rattle.rh_syntax.specs.declared.fault.Kind.{Kind}
use Rattle.rh_syntax.specs.declared.fault.Kind.TheVariants.{Empty, Long, Cut, Form, Header, Word, Number, Root, Tray}

-- what a part should be
pub data Sort : Type 0 where
  keyword : Sort
  number : Sort
  root : Sort
  operand : Sort
  copies_or_entries : Sort
  tray : Sort

-- the sorts of a first line's parts: heap WORDS RATIO LOG OWNERS SLOTS
abbrev pub header_form : List Sort
header_form = keyword ∷ number ∷ number ∷ number ∷ number ∷ number ∷ []

-- each keyword of a command, which stands after an owner, with the sorts of its line's parts
abbrev pub command_forms : List (List ℕ × List Sort)
command_forms =
    (codes "alloc", number ∷ keyword ∷ root ∷ number ∷ [])
    ∷ (codes "raw", number ∷ keyword ∷ root ∷ number ∷ [])
    ∷ (codes "load", number ∷ keyword ∷ root ∷ root ∷ number ∷ [])
    ∷ (codes "store", number ∷ keyword ∷ root ∷ number ∷ operand ∷ [])
    ∷ (codes "copy", number ∷ keyword ∷ root ∷ root ∷ [])
    ∷ (codes "same", number ∷ keyword ∷ root ∷ root ∷ [])
    ∷ (codes "drop", number ∷ keyword ∷ root ∷ [])
    ∷ []

-- each keyword that stands after an owner in a trace, with the sorts of its line's parts: `watch`,
-- and those of the commands
abbrev pub owned_forms : List (List ℕ × List Sort)
owned_forms = (codes "watch", number ∷ keyword ∷ root ∷ []) ∷ command_forms

-- each keyword that begins a line, with the sorts of its line's parts
abbrev pub keyword_forms : List (List ℕ × List Sort)
keyword_forms =
    (codes "begin", keyword ∷ [])
    ∷ (codes "shade", keyword ∷ root ∷ [])
    ∷ (codes "deal", keyword ∷ copies_or_entries ∷ number ∷ tray ∷ [])
    ∷ (codes "give", keyword ∷ tray ∷ [])
    ∷ (codes "join", keyword ∷ tray ∷ tray ∷ [])
    ∷ (codes "flip", keyword ∷ [])
    ∷ (codes "recall", keyword ∷ [])
    ∷ (codes "abandon", keyword ∷ [])
    ∷ (codes "idle", keyword ∷ number ∷ [])
    ∷ (codes "resize", keyword ∷ number ∷ [])
    ∷ (codes "tickets", keyword ∷ number ∷ [])
    ∷ (codes "unwatch", keyword ∷ number ∷ [])
    ∷ (codes "gone", keyword ∷ [])
    ∷ (codes "trays", keyword ∷ [])
    ∷ (codes "stat", keyword ∷ [])
    ∷ (codes "dump", keyword ∷ [])
    ∷ []

-- the form that a table gives a keyword
abbrev pub lookup : List ℕ → List (List ℕ × List Sort) → Option (List Sort)
lookup word [] = None
lookup word (entry ∷ entries) = if bytes_eq word entry.0 then Some entry.1 else lookup word entries

-- the part is the decimal of a number below 2^32
abbrev pub IsNumber : List ℕ → Type 0
IsNumber part = (n : ℕ) × IsU32 n × (part ≡ decimal n)

-- the part is OWNER.SLOT, two numbers below 2^32
abbrev pub IsRoot : List ℕ → Type 0
IsRoot part = (r : RootId) × RootFits r × (part ≡ root_text r)

-- the part is the decimal of a whole number of 64 bits with sign
abbrev pub IsInteger : List ℕ → Type 0
IsInteger part = (n : ℤ) × IsI64 n × (part ≡ signed_decimal n)

-- a dot stands somewhere in the part
abbrev pub HasDot : List ℕ → Type 0
HasDot [] = ⊥
HasDot (b ∷ bs) = (b ≡ 46) ⊎ HasDot bs

-- the part begins with a digit
abbrev pub IsDigitFirst : List ℕ → Type 0
IsDigitFirst [] = ⊥
IsDigitFirst (b ∷ bs) = (48 ≤ b) × (b ≤ 57)

-- from left to right, for each part: Number, Root or Tray, as the part should be one, and Word
-- where it should be `copies` or `entries`
abbrev pub each_part : List Sort → List (List ℕ) → ℕ → Kind → Type 0
each_part [] parts = no_fault
each_part (sort ∷ sorts) [] = no_fault
each_part (keyword ∷ sorts) (part ∷ parts) = each_part sorts parts
each_part (number ∷ sorts) (part ∷ parts) = Number when (¬ IsNumber part) ▸ each_part sorts parts
each_part (root ∷ sorts) (part ∷ parts) = Root when (¬ IsRoot part) ▸ each_part sorts parts
each_part (copies_or_entries ∷ sorts) (part ∷ parts) =
    Word when ((part ≢ codes "copies") × (part ≢ codes "entries")) ▸ each_part sorts parts
each_part (tray ∷ sorts) (part ∷ parts) = Tray when (¬ IsTrayName part) ▸ each_part sorts parts
each_part (operand ∷ sorts) (part ∷ parts) =
    Root when (HasDot part × (¬ IsRoot part))
    ▸ Number when ((¬ HasDot part) × (part ≢ codes "nil") × (¬ IsInteger part))
    ▸ each_part sorts parts

-- another number of parts than the form has, and then part by part
abbrev pub form_faults : Option (List Sort) → List (List ℕ) → ℕ → Kind → Type 0
form_faults None parts = no_fault
form_faults (Some form) parts = Form when (length parts ≢ length form) ▸ each_part form parts

-- the line begins with an owner
abbrev pub BeginsWithOwner : List (List ℕ) → Type 0
BeginsWithOwner [] = ⊥
BeginsWithOwner (first ∷ rest) = IsDigitFirst first

-- no part stands where the keyword should
abbrev pub LacksKeyword : List (List ℕ) → Type 0
LacksKeyword [] = ⊤
LacksKeyword (first ∷ []) = IsDigitFirst first
LacksKeyword (first ∷ second ∷ rest) = ⊥

-- the form that a table gives the part after an owner
abbrev pub form_of : List (List ℕ × List Sort) → List (List ℕ) → Option (List Sort)
form_of forms [] = None
form_of forms (owner ∷ []) = None
form_of forms (owner ∷ word ∷ args) = lookup word forms

-- the faults of the parts of a line whose keyword is in this table and stands after an owner
abbrev pub owned_part_faults : List (List ℕ × List Sort) → List (List ℕ) → ℕ → Kind → Type 0
owned_part_faults forms parts =
    Form when LacksKeyword parts
    ▸ Word when ((¬ BeginsWithOwner parts) ⊎ (form_of forms parts ≡ None))
    ▸ form_faults (form_of forms parts) parts

-- the faults of the parts of a command line
abbrev pub command_part_faults : List (List ℕ) → ℕ → Kind → Type 0
command_part_faults parts = owned_part_faults command_forms parts

-- the faults of a single command line, without its line end
abbrev pub command_faults : List ℕ → ℕ → Kind → Type 0
command_faults line = Form when (¬ IsFormedLine line) ▸ command_part_faults (parts_of line)

-- the form that the first part names
abbrev pub keyword_form_of : List (List ℕ) → Option (List Sort)
keyword_form_of [] = None
keyword_form_of (word ∷ args) = lookup word keyword_forms

-- the faults of the parts of a line that begins with no owner: its keyword stands first
abbrev pub keyword_part_faults : List (List ℕ) → ℕ → Kind → Type 0
keyword_part_faults parts =
    Form when (parts ≡ [])
    ▸ Word when (keyword_form_of parts ≡ None)
    ▸ form_faults (keyword_form_of parts) parts

-- the faults of the parts of a line after the first: those of a line of an owner where it begins
-- with one, and else those of a line that begins with its keyword
abbrev pub line_part_faults : List (List ℕ) → ℕ → Kind → Type 0
line_part_faults parts position kind =
    (BeginsWithOwner parts × owned_part_faults owned_forms parts position kind)
    ⊎ ((¬ BeginsWithOwner parts) × keyword_part_faults parts position kind)

-- the first part is this word
abbrev pub IsFirstPart : List ℕ → List (List ℕ) → Type 0
IsFirstPart word [] = ⊥
IsFirstPart word (first ∷ rest) = first ≡ word

-- the faults of the parts of the first line
abbrev pub header_part_faults : List (List ℕ) → ℕ → Kind → Type 0
header_part_faults parts =
    Header when ((¬ IsFirstPart (codes "heap") parts) ⊎ (length parts ≢ 6))
    ▸ each_part header_form parts

-- the faults of the raw line of this number, by those of its parts
abbrev pub raw_line_faults : (List (List ℕ) → ℕ → Kind → Type 0) → ℕ → RawLine → ℕ → Kind → Type 0
raw_line_faults part_faults n line =
    Long when ((1048576 < n) ⊎ (256 < length line.bytes))
    ▸ Cut when (line.ended ≡ false)
    ▸ Form when (¬ IsFormedLine line.bytes)
    ▸ part_faults (parts_of line.bytes)

-- the faults of the first line
abbrev pub header_faults : RawLine → ℕ → Kind → Type 0
header_faults line = raw_line_faults header_part_faults 1 line

-- the faults of a line after the first
abbrev pub line_faults : ℕ → RawLine → ℕ → Kind → Type 0
line_faults n line = raw_line_faults line_part_faults n line

-- the faults of a text of these lines, each on its line and at its position there
abbrev pub trace_faults : List RawLine → ℕ → ℕ → Kind → Type 0
trace_faults [] line position kind = (line ≡ 1) × (position ≡ 0) × (kind ≡ Empty)
trace_faults (first ∷ others) line position kind =
    ((line ≡ 1) × header_faults first position kind)
    ⊎ in_lines line_faults 2 others line position kind
