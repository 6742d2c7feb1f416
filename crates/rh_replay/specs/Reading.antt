-- What a text is read as: the history that it spells, or its first fault.
use Rattle.std.specs.Prelude.{◌≡◌, ℕ, ◌+◌, true, false, List, [], ◌∷◌, Option, Some, None, Result, Ok, Err, nat_lt, nat_le, ◌==◌, ◌&&◌, ◌||◌, not, length, if◌then◌else◌, codes}
use Rattle.std.specs.Option.{option_map}
use Rattle.std.specs.Str.{bytes_eq}
use Rattle.rh_layout.specs.declared.command.Command.{Command}
use Rattle.rh_layout.specs.declared.command.Reply.{Reply}
use Rattle.rh_layout.specs.declared.command.Reply.TheVariants.{Done, Nil, Int, Object, Raw, Same}
use Rattle.rh_layout.specs.declared.refusal.Refusal.{Refusal}
use Rattle.rh_layout.specs.declared.refusal.Refusal.TheVariants.{NoRoot, NotYours, NotObject, NoField, RawField, IntRange, FieldsRange}
use Rattle.rh_text.specs.RawLine.{RawLine, lines_of}
use Rattle.rh_text.specs.Parts.{one_part, two_parts, three_parts, ◌>>=◌ as ◌>>=?◌}
use Rattle.rh_text.specs.Number.{number_of, integer_of}
use Rattle.rh_text.specs.Steps.{◌>>=◌, or_fault, with_fault}
use Rattle.rh_syntax.specs.declared.fault.Kind.{Kind}
use Rattle.rh_syntax.specs.declared.fault.Kind.TheVariants as kinds
use Rattle.rh_syntax.specs.Reading.{owned_command, checked_parts}
use Rattle.rh_replay.specs.declared.call.Call.{Call}
use Rattle.rh_replay.specs.declared.fault.HistoryKind.{HistoryKind}
use Rattle.rh_replay.specs.declared.fault.HistoryKind.TheVariants.{Line, Trailing, Answer, Count, End}
use Rattle.rh_replay.specs.declared.fault.HistoryFault.{HistoryFault}
use Rattle.rh_replay.specs.declared.fault.HistoryError.{HistoryError}
use Rattle.rh_replay.specs.declared.fault.HistoryError.TheVariants as errors
use Rattle.rh_replay.specs.History.{HistoryState}

-- an answer of one part
unfoldable pub bare_answer : List ℕ → Option (Result Reply Refusal)
bare_answer word =
    if bytes_eq word (codes "done") then Some (Ok Done)
    else if bytes_eq word (codes "nil") then Some (Ok Nil)
    else None

-- whether two values are the same
unfoldable pub sameness_of : List ℕ → Option (Result Reply Refusal)
sameness_of part =
    if bytes_eq part (codes "yes") then Some (Ok (Same true))
    else if bytes_eq part (codes "no") then Some (Ok (Same false))
    else None

-- a refusal that isn't for a limit
unfoldable pub refusal_named : List ℕ → Option (Result Reply Refusal)
refusal_named part =
    if bytes_eq part (codes "NoRoot") then Some (Err NoRoot)
    else if bytes_eq part (codes "NotYours") then Some (Err NotYours)
    else if bytes_eq part (codes "NotObject") then Some (Err NotObject)
    else if bytes_eq part (codes "NoField") then Some (Err NoField)
    else if bytes_eq part (codes "RawField") then Some (Err RawField)
    else if bytes_eq part (codes "IntRange") then Some (Err IntRange)
    else if bytes_eq part (codes "FieldsRange") then Some (Err FieldsRange)
    else None

-- an answer of two parts
unfoldable pub answer_with : List ℕ → List ℕ → Option (Result Reply Refusal)
answer_with word part =
    if bytes_eq word (codes "int") then option_map (λ n. Ok (Int n)) (integer_of part)
    else if bytes_eq word (codes "object") then option_map (λ n. Ok (Object n)) (number_of part)
    else if bytes_eq word (codes "raw") then option_map (λ n. Ok (Raw n)) (number_of part)
    else if bytes_eq word (codes "same") then sameness_of part
    else if bytes_eq word (codes "refused") then refusal_named part
    else None

-- an answer of one part, or of two
abbrev pub answer_or : Option (List ℕ) → Option (List ℕ × List ℕ) → Option (Result Reply Refusal)
answer_or (Some word) two = bare_answer word
answer_or None two = two >>=? λ parts. answer_with parts.0 parts.1

-- the answer that parts say
unfoldable pub answer_of : List (List ℕ) → Option (Result Reply Refusal)
answer_of parts = answer_or (one_part parts) (two_parts parts)

-- the parts before the first one that is `=`
abbrev pub before_equals : List (List ℕ) → List (List ℕ)
before_equals [] = []
before_equals (part ∷ parts) = if bytes_eq part (codes "=") then [] else part ∷ before_equals parts

-- the parts after it, if there is one
abbrev pub after_equals : List (List ℕ) → List (List ℕ)
after_equals [] = []
after_equals (part ∷ parts) = if bytes_eq part (codes "=") then parts else after_equals parts

-- the command of the parts before `=`; where there is none, `=` stands where the keyword should
unfoldable pub command_before : List (List ℕ) → Result (ℕ × Command) Kind
command_before [] = Err kinds.Word
command_before (part ∷ parts) = owned_command (part ∷ parts)

-- COMMAND LINE = ANSWER
unfoldable pub call_of_parts : List (List ℕ) → Result Call HistoryKind
call_of_parts parts = do
  owned ← with_fault Line (command_before (before_equals parts))
  answer ← or_fault (answer_of (after_equals parts)) Answer
  Ok (record { owner = owned.0; command = owned.1; answer = answer })

-- the number of calls in `end N`, which is that of the lines before it without the first
unfoldable pub end_of_parts : ℕ → List (List ℕ) → Result (Option Call) HistoryKind
end_of_parts number args = do
  part ← or_fault (one_part args) (Line kinds.Form)
  count ← or_fault (number_of part) (Line kinds.Number)
  if count + 2 == number then Ok None else Err Count

-- a line after the first: a call, or nothing where it is the last line
unfoldable pub line_of_parts : ℕ → List (List ℕ) → Result (Option Call) HistoryKind
line_of_parts number [] = Err (Line kinds.Form)
line_of_parts number (word ∷ args) =
    if bytes_eq word (codes "end") then end_of_parts number args
    else (call_of_parts (word ∷ args) >>= λ call. Ok (Some call))

-- a raw line after the first, by its limits, its form and its parts
unfoldable pub line_or_kind : ℕ → RawLine → Result (Option Call) HistoryKind
line_or_kind number line = do
  parts ← with_fault Line (checked_parts number line)
  line_of_parts number parts

-- a number from 1 to this one
unfoldable pub size_up_to : ℕ → List ℕ → Option ℕ
size_up_to most part =
    number_of part >>=? λ n. if nat_le 1 n && nat_le n most then Some n else None

-- OWNERS SLOTS
unfoldable pub sizes_of : List ℕ → List ℕ → Result (ℕ × ℕ) Kind
sizes_of owners slots = do
  owners ← or_fault (size_up_to 16 owners) kinds.Number
  slots ← or_fault (size_up_to 256 slots) kinds.Number
  Ok (owners, slots)

-- history OWNERS SLOTS
unfoldable pub header_of_parts : List (List ℕ) → Result (ℕ × ℕ) Kind
header_of_parts parts = do
  three ← or_fault (three_parts parts) kinds.Header
  if bytes_eq three.0 (codes "history") then sizes_of three.1 three.2 else Err kinds.Header

-- the first raw line, by its limits, its form and its parts
unfoldable pub header_of_line : RawLine → Result (ℕ × ℕ) Kind
header_of_line line = do
  parts ← checked_parts 1 line
  header_of_parts parts

-- the same, with the kinds of a history's faults
abbrev pub header_or_kind : RawLine → Result (ℕ × ℕ) HistoryKind
header_or_kind line = with_fault Line (header_of_line line)

-- the fault of the line of this number
abbrev pub fault_at : ℕ → HistoryKind → HistoryFault
fault_at number kind = record { line = number; kind = kind }

-- what is wrong with a raw line after the last one
unfoldable pub kind_after_end : ℕ → RawLine → HistoryKind
kind_after_end number line =
    if nat_lt 1048576 number || nat_lt 256 (length line.bytes) then Line kinds.Long
    else if not line.ended then Line kinds.Cut
    else Trailing

-- nothing may follow the last line
unfoldable pub end_from : ℕ → List RawLine → Result (List Call) HistoryFault
end_from number [] = Ok []
end_from number (line ∷ lines) = Err (fault_at number (kind_after_end number line))

-- a raw line after the first, its fault named with the line
abbrev pub line_or_fault : ℕ → RawLine → Result (Option Call) HistoryFault
line_or_fault number line = with_fault (fault_at number) (line_or_kind number line)

-- the calls from a line on, by what is read after it: further calls after a call, and nothing after
-- the last line
abbrev pub next_calls : Option Call → Result (List Call) HistoryFault
    → Result (List Call) HistoryFault → Result (List Call) HistoryFault
next_calls None ended others = ended
next_calls (Some call) ended others = others >>= λ calls. Ok (call ∷ calls)

-- the calls of the lines from this number on, up to the last line
unfoldable pub calls_from : ℕ → List RawLine → Result (List Call) HistoryFault
calls_from number [] = Err (fault_at number End)
calls_from number (line ∷ lines) = do
  read ← line_or_fault number line
  next_calls read (end_from (number + 1) lines) (calls_from (number + 1) lines)

-- the first raw line, its fault named with the line
abbrev pub header_or_fault : RawLine → Result (ℕ × ℕ) HistoryFault
header_or_fault line = with_fault (fault_at 1) (header_or_kind line)

-- the first line, and then the calls
unfoldable pub history_or_fault : List RawLine → Result HistoryState HistoryFault
history_or_fault [] = Err (fault_at 1 (Line kinds.Empty))
history_or_fault (line ∷ lines) = do
  header ← header_or_fault line
  calls ← calls_from 2 lines
  Ok (record { owners = header.0; slots = header.1; calls = calls })

-- the history that the text spells, or its first fault
abbrev pub history_of : List ℕ → Result HistoryState HistoryFault
history_of bytes = history_or_fault (lines_of bytes)

-- the fault of a call is the one that reading gives, unless memory ran out
abbrev pub Fails : {Y : Type 0} → HistoryError → Result Y HistoryFault → Type 0
Fails errors.OutOfMemory read = Unit {0}
Fails (errors.Fault f) read = read ≡ Err f

-- what a function returned, seen by view, is what reading gives, unless memory ran out
abbrev pub Gives : {X Y : Type 0} → (X → Y) → Result X HistoryError → Result Y HistoryFault → Type 0
Gives view (Ok x) read = read ≡ Ok (view x)
Gives view (Err e) read = Fails e read
