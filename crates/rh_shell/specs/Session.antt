-- What a session writes for the lines that are typed.
use Rattle.std.specs.Prelude.{◌≡◌, ℕ, ◌+◌, ◌*◌, ◌^◌, ◌≤◌, ◌⊎◌, List, [], ◌∷◌, ◌++◌, length, take, Option, Some, None, Result, Ok, Err, nat_lt, not, if◌then◌else◌, codes, ◌==◌, false}
use Rattle.std.specs.Io.KnownBytes.{Appends}
use Rattle.std.specs.List.{list_any}
use Rattle.std.specs.Str.{bytes_eq}
use Rattle.rh_mutator.specs.declared.config.ConfigFault.{ConfigFault}
use Rattle.rh_mutator.specs.declared.config.ConfigFault.TheVariants.{BadSpace, BadRatio, BadRoots, BadLog, BadNumbers}
use Rattle.rh_core.specs.Config.{fault_of}
use Rattle.rh_core.specs.Heap.{HeapState, new_heap}
use Rattle.rh_core.specs.Stat.{stat_of}
use Rattle.rh_cycles.specs.declared.cycle.Cycle.{Cycle}
use Rattle.rh_cycles.specs.Cycles.{ReaderState, new_reader, read_step}
use Rattle.rh_cycles.specs.Heaps.{reading_of, without_entries}
use Rattle.rh_cycles.specs.Line.{cycle_line, cycles_header}
use Rattle.rh_text.specs.RawLine.{RawLine}
use Rattle.rh_text.specs.Output.{AppendsPrefix}
use Rattle.rh_syntax.specs.declared.fault.Kind.{Kind}
use Rattle.rh_syntax.specs.declared.fault.Kind.TheVariants as kinds
use Rattle.rh_syntax.specs.declared.fault.TraceFault.{TraceFault}
use Rattle.rh_syntax.specs.declared.line.Header.{Header}
use Rattle.rh_syntax.specs.declared.request.Request.{Request}
use Rattle.rh_syntax.specs.Reading.{header_or_fault, request_or_fault}
use Rattle.rh_engine.specs.Engine.{EngineState}
use Rattle.rh_trace.specs.declared.summary.Summary.{Summary}
use Rattle.rh_trace.specs.Answers.{answered_text, total_line}
use Rattle.rh_trace.specs.Run.{config_of, request_step, summary_with}
use Rattle.rh_shell.specs.HelpText.{help_text}
use Rattle.rh_shell.specs.declared.own.Own.{Own}
use Rattle.rh_shell.specs.declared.own.Own.TheVariants as owns

-- The state of a session.

-- the heap and the trays, the reader of its cycles, and the lines of those that ended
pub record PlayingState : Type 0 where
  pub engine : EngineState
  pub reader : ReaderState
  pub told : List ℕ

-- what stands of a session between two lines: the heap, once its line was taken; what the answers
-- add up to; and the number that the next line has in the trace of the lines that were taken
pub record SessionState : Type 0 where
  pub playing : Option PlayingState
  pub summary : Summary
  pub number : ℕ

-- a session before its first line
abbrev pub new_session : SessionState
new_session = record {
  playing = None;
  summary = record { commands = 0; refused = 0; flips = 0; root_words = 0 };
  number = 1;
}

-- What was counted is at most as many as the lines that were taken, a trace's lines. Before there is
-- a heap none was taken.
pub record IsCounted (s : SessionState) : Type 0 where
  pub number : s.number ≤ 1048577
  pub commands : s.summary.commands ≤ s.number
  pub refused : s.summary.refused ≤ s.number
  pub flips : s.summary.flips ≤ s.number
  pub root_words : s.summary.root_words ≤ 2 ^ 32 * s.number
  pub first : s.playing ≡ None → s.number ≡ 1

-- a new heap, before the first line after its own
abbrev pub new_playing : HeapState → PlayingState
new_playing h = record {
  engine = record { heap = h; trays = [] };
  reader = new_reader (stat_of h);
  told = [];
}

-- the line of the cycle that ended, if one did; its entries by class aren't known
abbrev pub told_line : Option Cycle → List ℕ
told_line None = []
told_line (Some cycle) = cycle_line (without_entries cycle)

-- The heap's numbers were read after the line of this number.
abbrev pub read_after : PlayingState → ℕ → PlayingState
read_after p number = record p {
  reader = (read_step p.reader (reading_of number (stat_of p.engine.heap))).0;
  told = p.told ++ told_line (read_step p.reader (reading_of number (stat_of p.engine.heap))).1;
}

-- A request was answered, the line of this number.
abbrev pub answered_step : PlayingState → ℕ → Request → PlayingState
answered_step p number request =
    read_after (record p { engine = (request_step p.engine request).0 }) number

-- The texts of a session's own.

-- the name of a fault of a line
abbrev pub kind_name : Kind → List ℕ
kind_name kinds.Empty = codes "Empty"
kind_name kinds.Long = codes "Long"
kind_name kinds.Cut = codes "Cut"
kind_name kinds.Form = codes "Form"
kind_name kinds.Header = codes "Header"
kind_name kinds.Word = codes "Word"
kind_name kinds.Number = codes "Number"
kind_name kinds.Root = codes "Root"
kind_name kinds.Tray = codes "Tray"

-- the name of a fault of a heap's sizes
abbrev pub size_fault_name : ConfigFault → List ℕ
size_fault_name BadSpace = codes "BadSpace"
size_fault_name BadRatio = codes "BadRatio"
size_fault_name BadRoots = codes "BadRoots"
size_fault_name BadLog = codes "BadLog"
size_fault_name BadNumbers = codes "BadNumbers"

-- a line that tells a fault of this name; a sentence without a line feed may stand after it
abbrev pub IsFaultLine : List ℕ → List ℕ → Type 0
IsFaultLine name text =
    (text ≡ codes "fault: " ++ (name ++ 10 ∷ []))
    ⊎ ((sentence : List ℕ) × (list_any (λ b. b == 10) sentence ≡ false)
    × (text ≡ codes "fault: " ++ (name ++ (codes ": " ++ (sentence ++ 10 ∷ [])))))

-- what a line asks beside those of a trace: `help`, `cycles`, or `draw` and the name of a file
unfoldable pub own_of : RawLine → Own
own_of line =
    if nat_lt 256 (length line.bytes) then owns.Nothing
    else if not line.ended then owns.Nothing
    else if bytes_eq line.bytes (codes "help") then owns.Help
    else if bytes_eq line.bytes (codes "cycles") then owns.Cycles
    else if not (nat_lt 5 (length line.bytes)) then owns.Nothing
    else if bytes_eq (take 5 line.bytes) (codes "draw ") then owns.Draw
    else owns.Nothing

-- a line for each cycle that ended, after one with the names of the columns; the fault Header where
-- there is no heap
abbrev pub IsCyclesAnswer : Option PlayingState → List ℕ → Type 0
IsCyclesAnswer None text = IsFaultLine (kind_name kinds.Header) text
IsCyclesAnswer (Some p) text = text ≡ cycles_header ++ p.told

-- the fault Header where there is no heap, else that a picture was put into its file, or the fault
-- Form or File; which of the three is only tested
abbrev pub IsDrawAnswer : Option PlayingState → List ℕ → Type 0
IsDrawAnswer None text = IsFaultLine (kind_name kinds.Header) text
IsDrawAnswer (Some p) text =
    (text ≡ codes "drawn\n") ⊎ IsFaultLine (kind_name kinds.Form) text
    ⊎ IsFaultLine (codes "File") text

-- what is answered to a line that is none of a trace, with this fault there
abbrev pub IsOtherAnswer : Own → Option PlayingState → Kind → List ℕ → Type 0
IsOtherAnswer owns.Help p kind text = text ≡ help_text
IsOtherAnswer owns.Cycles p kind text = IsCyclesAnswer p text
IsOtherAnswer owns.Draw p kind text = IsDrawAnswer p text
IsOtherAnswer owns.Nothing p kind text = IsFaultLine (kind_name kind) text

-- What is answered to a line.

-- The heap's line: nothing is answered, and the next line has number 2. Sizes that no heap has are a
-- fault, and change nothing.
abbrev pub IsHeapAnswer : SessionState → Header → Option ConfigFault → List ℕ → SessionState → Type 0
IsHeapAnswer s header (Some fault) text t = IsFaultLine (size_fault_name fault) text × (t ≡ s)
IsHeapAnswer s header None text t =
    (text ≡ [])
    × (t ≡ record s { playing = Some (new_playing (new_heap (config_of header))); number = 2 })

-- The first line that is taken is the heap's. Other lines change nothing.
abbrev pub IsFirstAnswer : SessionState → RawLine → Result Header TraceFault → List ℕ → SessionState
    → Type 0
IsFirstAnswer s line (Ok header) text t =
    IsHeapAnswer s header (fault_of (config_of header)) text t
IsFirstAnswer s line (Err fault) text t =
    IsOtherAnswer (own_of line) s.playing fault.kind text × (t ≡ s)

-- the session after a request of a trace was answered
abbrev pub session_after : SessionState → PlayingState → Request → SessionState
session_after s p request = record {
  playing = Some (answered_step p s.number request);
  summary = summary_with s.summary (request_step p.engine request).1;
  number = s.number + 1;
}

-- A request is answered as in a trace. Other lines change nothing.
abbrev pub IsNextAnswer : SessionState → PlayingState → RawLine → Result Request TraceFault
    → List ℕ → SessionState → Type 0
IsNextAnswer s p line (Ok request) text t =
    (text ≡ answered_text (request_step p.engine request).1) × (t ≡ session_after s p request)
IsNextAnswer s p line (Err fault) text t =
    IsOtherAnswer (own_of line) s.playing fault.kind text × (t ≡ s)

-- by whether there is a heap
abbrev pub IsAnswerAt : Option PlayingState → SessionState → RawLine → List ℕ → SessionState
    → Type 0
IsAnswerAt None s line text t = IsFirstAnswer s line (header_or_fault line) text t
IsAnswerAt (Some p) s line text t = IsNextAnswer s p line (request_or_fault s.number line) text t

-- what is answered to a line, and the session after it
abbrev pub IsAnswer : SessionState → RawLine → List ℕ → SessionState → Type 0
IsAnswer s line text t = IsAnswerAt s.playing s line text t

-- what is answered to these lines, one after the other, and the session after them
abbrev pub AreAnswers : SessionState → List RawLine → List ℕ → SessionState → Type 0
AreAnswers s [] text t = (text ≡ []) × (t ≡ s)
AreAnswers s (line ∷ lines) text t =
    (first : List ℕ) × (rest : List ℕ) × (mid : SessionState)
    × IsAnswer s line first mid × AreAnswers mid lines rest t × (text ≡ first ++ rest)

-- the whole text of a session of these lines, and what its answers add up to
abbrev pub IsSession : List RawLine → List ℕ → Summary → Type 0
IsSession lines text sum =
    (answers : List ℕ) × (t : SessionState)
    × AreAnswers new_session lines answers t
    × (text ≡ answers ++ total_line t.summary) × (sum ≡ t.summary)

-- How writing some text ends: all of it is written, or a prefix of it.
abbrev pub WritesSome : {X E : Type 0} → List ℕ → Result X E → Option (List ℕ) → Option (List ℕ)
    → Type 0
WritesSome text (Ok x) old new = Appends old new text
WritesSome text (Err e) old new = AppendsPrefix old new text
