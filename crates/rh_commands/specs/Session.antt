-- How a session ends the program.
use Rattle.std.specs.Prelude.{◌≡◌, ◌⊎◌, ℕ, Option, List, [], ◌++◌, Result, Ok, Err}
use Rattle.std.specs.Io.KnownBytes.{Appends}
use Rattle.rh_text.specs.Output.{AppendsPrefix}
use Rattle.rh_text.specs.RawLine.{lines_of}
use Rattle.rh_trace.specs.declared.summary.Summary.{Summary}
use Rattle.rh_shell.specs.declared.fault.ShellFault.{ShellFault}
use Rattle.rh_shell.specs.declared.fault.ShellFault.TheVariants as shell_faults
use Rattle.rh_shell.specs.Session.{IsSession, SessionState}
use Rattle.rh_shell.specs.Typing.{AnswersEnded, AnswersFirst, IsAfter, TotalsSome}
use Rattle.rh_commands.specs.declared.fault.LineFault.{LineFault}
use Rattle.rh_commands.specs.declared.fault.LineFault.TheVariants as faults

-- the status after a fault of a session: 3 for want of memory, else 1
abbrev pub session_status : ShellFault → ℕ
session_status shell_faults.Read = 1
session_status shell_faults.Write = 1
session_status shell_faults.OutOfMemory = 3

-- the fault of the program that its is told as
abbrev pub session_told_as : ShellFault → LineFault
session_told_as shell_faults.Read = faults.Read
session_told_as shell_faults.Write = faults.Write
session_told_as shell_faults.OutOfMemory = faults.OutOfMemory

-- the status after a session: 0 where its input came to the end
abbrev pub IsSessionStatus : Result Summary ShellFault → ℕ → Type 0
IsSessionStatus (Ok summary) status = status ≡ 0
IsSessionStatus (Err fault) status = status ≡ session_status fault

-- Of the answers to first lines of what was typed a prefix is written. The answer to a line that
-- isn't ended is among them only at the end of the input.
abbrev pub AnswersWithin : List ℕ → Option (List ℕ) → Option (List ℕ) → Type 0
AnswersWithin input old new =
    (typed : List ℕ) × (rest : List ℕ) × (text : List ℕ) × (input ≡ typed ++ rest)
    × (AnswersEnded typed text ⊎ ((rest ≡ []) × AnswersFirst typed text))
    × AppendsPrefix old new text

-- How a session with this input ends: with the whole text of its lines written; where a read
-- failed, with the answers to all ended lines of what was read; where a write failed, with a prefix
-- of answers, or with all of them and a prefix of the total line; and where memory was refused,
-- with a prefix of answers.
abbrev pub SessionEnds : List ℕ → Result Summary ShellFault → Option (List ℕ) → Option (List ℕ)
    → Type 0
SessionEnds input (Ok summary) old new =
    (text : List ℕ) × IsSession (lines_of input) text summary × Appends old new text
SessionEnds input (Err shell_faults.Read) old new =
    (typed : List ℕ) × (rest : List ℕ) × (kept : List ℕ) × (text : List ℕ) × (s : SessionState)
    × (input ≡ typed ++ rest) × IsAfter typed kept text s × Appends old new text
SessionEnds input (Err shell_faults.Write) old new =
    AnswersWithin input old new ⊎ TotalsSome input [] old new
SessionEnds input (Err shell_faults.OutOfMemory) old new = AnswersWithin input old new

-- the session ended in a way that fits its input and what was written, and the status is that
-- ending's
abbrev pub ConcludesSession : List ℕ → ℕ → Option (List ℕ) → Option (List ℕ) → Type 0
ConcludesSession input status old new =
    (outcome : Result Summary ShellFault) × SessionEnds input outcome old new
    × IsSessionStatus outcome status
