-- The lines of traces and histories, as they are told.
use Rattle.std.specs.Prelude.{ℕ, ◌+◌, ◌-◌, List, [], ◌∷◌, ◌++◌, Option, Some, None, decimal, slice_get}
use Rattle.rh_syntax.specs.CommandAnswers.{answer_text}
use Rattle.rh_syntax.specs.Spelling.{command_text}
pub use Rattle.rh_syntax.specs.Spelling.{request_text}
use Rattle.rh_replay.specs.declared.call.Call.{Call}
use Rattle.rh_replay.specs.declared.checking.Verdict.{Verdict}
use Rattle.rh_replay.specs.declared.checking.Verdict.TheVariants.{Legal, Wrong}
use Rattle.rh_replay.specs.History.{HistoryState}
use Rattle.rh_replay.specs.Report.{report_text}

-- LINE, COMMAND and ANSWER of a history's line, with tabs between
abbrev pub call_echo : ℕ → Call → List ℕ
call_echo line call =
    decimal line ++ 9 ∷ (command_text call.owner call.command ++ 9 ∷ (answer_text call.answer
    ++ 10 ∷ []))

-- that of the call, counted from 1, where there is one; the first stands on line 2
abbrev pub call_echo_if : ℕ → Option Call → List ℕ
call_echo_if at None = []
call_echo_if at (Some call) = call_echo (at + 1) call

-- the report on a history, and the line of its first wrong call, counted from 1
abbrev pub report_echo : HistoryState → Verdict → List ℕ
report_echo h (Legal count) = report_text h (Legal count)
report_echo h (Wrong at expected) =
    report_text h (Wrong at expected) ++ call_echo_if at (slice_get h.calls (at - 1))
