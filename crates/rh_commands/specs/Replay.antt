-- How checking a history ends the program.
use Rattle.std.specs.Prelude.{◌≡◌, ℕ, ◌<◌, ◌≤◌, ◌⊎◌, ⊤, Option, List, length, Result, Ok, Err}
use Rattle.std.specs.Io.KnownBytes.{Appends, Keeps}
use Rattle.rh_text.specs.Output.{AppendsLess}
use Rattle.rh_replay.specs.declared.checking.Verdict.{Verdict}
use Rattle.rh_replay.specs.declared.checking.Verdict.TheVariants.{Legal, Wrong}
use Rattle.rh_replay.specs.History.{HistoryState}
use Rattle.rh_replay.specs.Legal.{IsVerdict}
use Rattle.rh_replay.specs.Reading.{history_of}
use Rattle.rh_replay.specs.Report.{report_text}
use Rattle.rh_replay.specs.Spelling.{IsReadable, spelling}
use Rattle.rh_commands.specs.declared.fault.LineFault.{LineFault}
use Rattle.rh_commands.specs.declared.fault.LineFault.TheVariants as faults
use Rattle.rh_commands.specs.Fault.{status_of}

-- the input is the text of this history, within the limit of bytes, and this is the verdict on it
pub record IsJudged (input : List ℕ) (h : HistoryState) (verdict : Verdict) : Type 0 where
  pub few : length input ≤ 16777216
  pub readable : IsReadable h
  pub spelled : input ≡ spelling h
  pub judged : IsVerdict h verdict

-- How the check of an input ends: with the verdict on its history and the whole report written;
-- where a write failed, with a part of that report written, and not all; with a fault that the
-- input has, or where a read failed or memory was refused, with nothing written. No other fault
-- comes.
abbrev pub ReplayEnds : List ℕ → Result Verdict LineFault → Option (List ℕ) → Option (List ℕ)
    → Type 0
ReplayEnds input (Ok verdict) old new =
    (h : HistoryState) × IsJudged input h verdict × Appends old new (report_text h verdict)
ReplayEnds input (Err faults.Write) old new =
    (h : HistoryState) × (verdict : Verdict) × IsJudged input h verdict
    × AppendsLess old new (report_text h verdict)
ReplayEnds input (Err faults.TooLong) old new = (16777216 < length input) × Keeps old new
ReplayEnds input (Err (faults.History fault)) old new =
    (length input ≤ 16777216) × (history_of input ≡ Err fault) × Keeps old new
ReplayEnds input (Err faults.Read) old new = Keeps old new
ReplayEnds input (Err faults.OutOfMemory) old new = Keeps old new
ReplayEnds input (Err fault) old new = ⊥

-- the status after a check: 0 where the history is legal and 4 where it is wrong, or 1 where the
-- last flush failed; and a fault's own
abbrev pub IsReplayStatus : Result Verdict LineFault → ℕ → Type 0
IsReplayStatus (Ok (Legal count)) status = (status ≡ 0) ⊎ (status ≡ 1)
IsReplayStatus (Ok (Wrong at expected)) status = (status ≡ 4) ⊎ (status ≡ 1)
IsReplayStatus (Err fault) status = status ≡ status_of fault

-- it came to the verdict that the history is legal
abbrev pub TellsLegal : Result Verdict LineFault → Type 0
TellsLegal (Ok (Legal count)) = ⊤
TellsLegal (Ok (Wrong at expected)) = ⊥
TellsLegal (Err fault) = ⊥

-- it came to the verdict that the history is wrong
abbrev pub TellsWrong : Result Verdict LineFault → Type 0
TellsWrong (Ok (Legal count)) = ⊥
TellsWrong (Ok (Wrong at expected)) = ⊤
TellsWrong (Err fault) = ⊥

-- the check ended in a way that fits its input and what was written, and the status is that
-- ending's
abbrev pub ConcludesReplay : List ℕ → ℕ → Option (List ℕ) → Option (List ℕ) → Type 0
ConcludesReplay input status old new =
    (outcome : Result Verdict LineFault) × ReplayEnds input outcome old new
    × IsReplayStatus outcome status
