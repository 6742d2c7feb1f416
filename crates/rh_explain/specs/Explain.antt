-- Where a line of a trace fails, by the faults of its format.
use Rattle.std.specs.Prelude.{◌≡◌, ℕ, zero, suc, ◌+◌, ◌<◌, ◌≤◌, ◌==◌, List, [], ◌∷◌, ◌++◌, length, take, get_or, map, Option, Some, None, Result, Ok, Err, if◌then◌else◌}
use Rattle.std.specs.List.{flat_map}
use Rattle.rh_text.specs.Parts.{parts_of, IsFormedLine}
use Rattle.rh_text.specs.RawLine.{RawLine}
use Rattle.rh_text.specs.Stages.{IsFaultless}
use Rattle.rh_syntax.specs.Faults.{Sort, keyword, number, root, operand, copies_or_entries, tray, line_part_faults, header_part_faults}
use Rattle.rh_syntax.specs.Reading.{header_or_kind, request_or_kind}
use Rattle.rh_syntax.specs.declared.fault.Kind.{Kind}
use Rattle.rh_syntax.specs.declared.fault.Kind.TheVariants as kinds
use Rattle.rh_explain.specs.declared.expected.Expected.{Expected}
use Rattle.rh_explain.specs.declared.expected.Expected.TheVariants as expected
use Rattle.rh_explain.specs.declared.rows.TraceRow.{TraceRow}
use Rattle.rh_explain.specs.declared.why.Why.{Why}
use Rattle.rh_explain.specs.declared.why.Why.TheVariants as whys

-- what a part should be, as the format's tables say it
abbrev pub sort_of : Expected → Sort
sort_of expected.Keyword = keyword
sort_of (expected.Number name) = number
sort_of (expected.Root name) = root
sort_of expected.Operand = operand
sort_of expected.Dealt = copies_or_entries
sort_of expected.Tray = tray

-- what the parts of a row's line should be
abbrev pub sorts_of : TraceRow → List Sort
sorts_of row = map sort_of row.form.now

-- a row as an entry of the format's tables
abbrev pub entry_of : TraceRow → List ℕ × List Sort
entry_of row = (row.keyword.now, sorts_of row)

-- the kind of the fault that reading tells, by what is wrong
abbrev pub class : Why → Kind
class whys.TooManyLines = kinds.Long
class whys.TooManyBytes = kinds.Long
class whys.Unended = kinds.Cut
class whys.Tab = kinds.Form
class whys.CarriageReturn = kinds.Form
class whys.ByteOrderMark = kinds.Form
class (whys.Byte byte) = kinds.Form
class whys.Blank = kinds.Form
class whys.SpaceAtStart = kinds.Form
class whys.SecondSpace = kinds.Form
class whys.SpaceAtEnd = kinds.Form
class whys.History = kinds.Header
class whys.Dump = kinds.Header
class whys.NotHeap = kinds.Header
class whys.HeaderShort = kinds.Header
class whys.HeaderLong = kinds.Header
class whys.OwnerAlone = kinds.Form
class whys.Unknown = kinds.Word
class whys.UnknownOwned = kinds.Word
class whys.Comment = kinds.Word
class whys.HeapAgain = kinds.Word
class (whys.Misspelled near) = kinds.Word
class (whys.OwnerMissing word) = kinds.Word
class (whys.OwnerSurplus word) = kinds.Word
class whys.NotCommand = kinds.Word
class (whys.Missing part row) = kinds.Form
class whys.Surplus = kinds.Form
class whys.NotDealt = kinds.Word
class whys.NotNumber = kinds.Number
class whys.NumberRange = kinds.Number
class whys.NotOperand = kinds.Number
class whys.NotRoot = kinds.Root
class whys.NotFraction = kinds.Root
class whys.NotTray = kinds.Tray

-- the kind of fault that reading gives, if it gives one
abbrev pub kind_told : {A : Type 0} → Result A Kind → Option Kind
kind_told (Ok x) = None
kind_told (Err kind) = Some kind

-- the kind of fault that reading the raw line of this number gives: it is the first line's where
-- the number is 1
abbrev pub fault_of : ℕ → RawLine → Option Kind
fault_of n raw =
    if n == 1 then kind_told (header_or_kind raw) else kind_told (request_or_kind n raw)

-- the faults of the parts of the line of this number: the first line's where the number is 1
abbrev pub part_faults_of : ℕ → List (List ℕ) → ℕ → Kind → Type 0
part_faults_of zero = line_part_faults
part_faults_of (suc zero) = header_part_faults
part_faults_of (suc (suc n)) = line_part_faults

-- these columns are those at which a line of printable bytes and filled parts can't go on: the text
-- before them is the beginning of such a line, and no such line goes on as this one does up to their
-- end and the byte after it, which is the line end where no other is
pub record IsIllFormedAt (line : List ℕ) (begins ends : ℕ) : Type 0 where
  pub before : (rest : List ℕ) × IsFormedLine (take begins line ++ rest)
  pub after : (other : List ℕ) → take (ends + 1) (other ++ 10 ∷ []) ≡ take (ends + 1) (line ++ 10 ∷ []) → ¬ IsFormedLine other

-- the parts, each with a space after it
abbrev pub spaced : List (List ℕ) → List ℕ
spaced parts = flat_map (λ part. part ++ 32 ∷ []) parts

-- these parts are the beginning of some that have no fault as early, in the order of the format, as
-- the fault of this kind that the whole parts have
pub record BeginWell (faults : List (List ℕ) → ℕ → Kind → Type 0) (parts ahead : List (List ℕ)) (kind : Kind) : Type 0 where
  pub stage : ℕ
  pub holds : faults parts stage kind
  pub others : List (List ℕ)
  pub none : (early : ℕ) (k : Kind) → early ≤ stage → ¬ faults (ahead ++ others) early k

-- these parts fail at the part of this number, by these faults: those before it begin well, and no
-- parts without a fault begin with those up to it
pub record IsFirstMisfit (faults : List (List ℕ) → ℕ → Kind → Type 0) (parts : List (List ℕ)) (index : ℕ) (kind : Kind) : Type 0 where
  pub ahead : List (List ℕ)
  pub behind : List (List ℕ)
  pub parts_are : parts ≡ ahead ++ behind
  pub index_is : index ≡ length ahead
  pub before : BeginWell faults parts ahead kind
  pub after : (part : List ℕ) (left others : List (List ℕ)) → behind ≡ part ∷ left → ¬ IsFaultless (faults (ahead ++ part ∷ others))

-- the columns of the part of this number in a line: the text before them is that of the parts before
-- it, and the text up to their end has the part too. They are the line's end where there is none
pub record IsPartAt (line : List ℕ) (index begins ends : ℕ) : Type 0 where
  pub before : index < length (parts_of line) → take begins line ≡ spaced (take index (parts_of line))
  pub part : index < length (parts_of line) → take ends line ≡ spaced (take index (parts_of line)) ++ get_or (parts_of line) index []
  pub missing : length (parts_of line) ≤ index → (begins ≡ length line) × (ends ≡ length line)
