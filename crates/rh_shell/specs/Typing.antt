-- How far a session is, by the bytes that were typed, and how it ends.
use Rattle.std.specs.Prelude.{◌≡◌, ◌⊎◌, ℕ, false, List, ◌++◌, take, ◌==◌, Option, Result, Ok, Err}
use Rattle.std.specs.List.{AllByRecursion}
use Rattle.std.specs.Io.KnownBytes.{Appends, Consumes, IsAtEnd}
use Rattle.rh_text.specs.Output.{AppendsPrefix}
use Rattle.rh_text.specs.RawLine.{RawLine, lines_of}
use Rattle.rh_trace.specs.Answers.{total_line}
use Rattle.rh_trace.specs.declared.stop.Stop.{Stop}
use Rattle.rh_trace.specs.declared.stop.Stop.TheVariants as stops
use Rattle.rh_trace.specs.declared.summary.Summary.{Summary}
use Rattle.rh_shell.specs.declared.fault.ShellFault.{ShellFault}
use Rattle.rh_shell.specs.declared.fault.ShellFault.TheVariants as faults
use Rattle.rh_shell.specs.Session.{SessionState, new_session, AreAnswers, IsSession}

-- the fault that a stop is
abbrev pub fault_of_stop : Stop → ShellFault
fault_of_stop stops.Write = faults.Write
fault_of_stop stops.OutOfMemory = faults.OutOfMemory

-- After these bytes the lines that were ended are answered by this text, and of the line that is
-- being typed the first 257 bytes are kept.
pub record IsAfter (typed kept text : List ℕ) (s : SessionState) : Type 0 where
  pub lines : List RawLine
  pub partial : List ℕ
  pub cut : (rest : List ℕ) → lines_of (typed ++ rest) ≡ lines ++ lines_of (partial ++ rest)
  pub unended : AllByRecursion (λ b. (b == 10) ≡ false) partial
  pub first : kept ≡ take 257 partial
  pub answered : AreAnswers new_session lines text s

-- this text answers the first lines of what was typed, or all
abbrev pub AnswersFirst : List ℕ → List ℕ → Type 0
AnswersFirst typed text =
    (lines : List RawLine) × (others : List RawLine) × (t : SessionState)
    × (lines_of typed ≡ lines ++ others) × AreAnswers new_session lines text t

-- this text answers first lines of what was typed, whatever is typed then: it has no answer to a
-- line that isn't ended
abbrev pub AnswersEnded : List ℕ → List ℕ → Type 0
AnswersEnded typed text = (rest : List ℕ) → AnswersFirst (typed ++ rest) text

-- All ended lines of what was typed are answered, after what was written before.
abbrev pub Taken : List ℕ → List ℕ → List ℕ → SessionState → Option (List ℕ) → Option (List ℕ)
    → Type 0
Taken typed before kept s old new =
    (text : List ℕ) × IsAfter typed kept (before ++ text) s × Appends old new text

-- Of some answers a prefix is written, after what was written before, whatever is typed then.
abbrev pub Stopped : List ℕ → List ℕ → Option (List ℕ) → Option (List ℕ) → Type 0
Stopped typed before old new =
    (text : List ℕ) × AnswersEnded typed (before ++ text) × AppendsPrefix old new text

-- what was typed is taken, or answering it stopped
abbrev pub Takes : {X : Type 0} → List ℕ → List ℕ → Result X Stop → List ℕ → SessionState
    → Option (List ℕ) → Option (List ℕ) → Type 0
Takes typed before (Ok x) kept s old new = Taken typed before kept s old new
Takes typed before (Err e) kept s old new = Stopped typed before old new

-- What was typed is taken, also where reading on failed; or answering it stopped.
abbrev pub Reads : {X : Type 0} → List ℕ → List ℕ → Result X ShellFault → List ℕ → SessionState
    → Option (List ℕ) → Option (List ℕ) → Type 0
Reads typed before (Ok x) kept s old new = Taken typed before kept s old new
Reads typed before (Err faults.Read) kept s old new = Taken typed before kept s old new
Reads typed before (Err faults.Write) kept s old new = Stopped typed before old new
Reads typed before (Err faults.OutOfMemory) kept s old new = Stopped typed before old new

-- At the end of the input a prefix of the answers to all lines is written, after what was written
-- before.
abbrev pub AnswersSome : List ℕ → List ℕ → Option (List ℕ) → Option (List ℕ) → Type 0
AnswersSome typed before old new =
    (text : List ℕ) × (t : SessionState)
    × AreAnswers new_session (lines_of typed) (before ++ text) t × AppendsPrefix old new text

-- At the end of the input the answers to all lines are written, after what was written before, and
-- a prefix of the total line.
abbrev pub TotalsSome : List ℕ → List ℕ → Option (List ℕ) → Option (List ℕ) → Type 0
TotalsSome typed before old new =
    (text : List ℕ) × (t : SessionState) × (now : Option (List ℕ))
    × AreAnswers new_session (lines_of typed) (before ++ text) t
    × Appends old now text × AppendsPrefix now new (total_line t.summary)

-- After what was written before, the whole of a session's end is written, with the answer to a line
-- that isn't ended; or of that a prefix. No read is made then.
abbrev pub EndsAfter : List ℕ → List ℕ → Result Summary ShellFault → Option (List ℕ)
    → Option (List ℕ) → Type 0
EndsAfter typed before (Ok sum) old new =
    (text : List ℕ) × (t : SessionState)
    × AreAnswers new_session (lines_of typed) (before ++ text) t × (sum ≡ t.summary)
    × Appends old new (text ++ total_line t.summary)
EndsAfter typed before (Err faults.Read) old new = ⊥
EndsAfter typed before (Err faults.Write) old new =
    AnswersSome typed before old new ⊎ TotalsSome typed before old new
EndsAfter typed before (Err faults.OutOfMemory) old new = AnswersSome typed before old new

-- A session whose answering stopped: a prefix of the answers to the first lines is written. An
-- answer to a line that isn't ended is among them only after the end of the input.
abbrev pub StopsWithin : Option (List ℕ) → Option (List ℕ) → Option (List ℕ) → Option (List ℕ)
    → Type 0
StopsWithin input left old new =
    (typed : List ℕ) × (text : List ℕ) × Consumes input left typed
    × (AnswersEnded typed text ⊎ (IsAtEnd left × AnswersFirst typed text))
    × AppendsPrefix old new text

-- A session that stopped at its total line: after the end of the input, with all lines answered.
abbrev pub StopsAtTotal : Option (List ℕ) → Option (List ℕ) → Option (List ℕ)
    → Option (List ℕ) → Type 0
StopsAtTotal input left old new =
    (typed : List ℕ) × (text : List ℕ) × (t : SessionState) × (now : Option (List ℕ))
    × Consumes input left typed × IsAtEnd left
    × AreAnswers new_session (lines_of typed) text t
    × Appends old now text × AppendsPrefix now new (total_line t.summary)

-- How a session ends: at the end of its input with the whole text of its lines; with the answers to
-- all ended lines where a read failed; in its answers, or in its total line, where a write failed;
-- and in its answers where memory was refused.
abbrev pub Ends : Result Summary ShellFault → Option (List ℕ) → Option (List ℕ)
    → Option (List ℕ) → Option (List ℕ) → Type 0
Ends (Ok sum) input left old new =
    (typed : List ℕ) × (text : List ℕ)
    × Consumes input left typed × IsAtEnd left × IsSession (lines_of typed) text sum
    × Appends old new text
Ends (Err faults.Read) input left old new =
    (typed : List ℕ) × (kept : List ℕ) × (text : List ℕ) × (s : SessionState)
    × Consumes input left typed × IsAfter typed kept text s × Appends old new text
Ends (Err faults.Write) input left old new =
    StopsWithin input left old new ⊎ StopsAtTotal input left old new
Ends (Err faults.OutOfMemory) input left old new = StopsWithin input left old new
