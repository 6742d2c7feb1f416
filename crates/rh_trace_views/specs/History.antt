-- The history of a run's commands.
use Rattle.std.specs.Prelude.{ℕ, Bool, true, false, List, [], ◌∷◌, ◌++◌}
use Rattle.std.specs.List.{flat_map}
use Rattle.rh_mutator.specs.Commands.{is_limit_answer}
use Rattle.rh_syntax.specs.declared.request.Request.{Request}
use Rattle.rh_syntax.specs.declared.request.Request.TheVariants as requests
use Rattle.rh_trace.specs.Answers as answers
use Rattle.rh_trace.specs.Answers.{Answered}
use Rattle.rh_replay.specs.declared.call.Call.{Call}
use Rattle.rh_replay.specs.History.{HistoryState, empty_history}
use Rattle.rh_trace_views.specs.Views.{Viewed}

-- a call, unless a limit refused it
abbrev pub kept_unless : Bool → Call → List Call
kept_unless true call = []
kept_unless false call = call ∷ []

-- the call that a request was, if it is an owner's command, and no limit refused it
abbrev pub call_of : Request → Answered → List Call
call_of (requests.Command owner command) (answers.Answer answer) =
    kept_unless (is_limit_answer answer)
    (record { owner = owner; command = command; answer = answer })
call_of request answered = []

-- the calls of lines, in order
abbrev pub calls_of : List Viewed → List Call
calls_of lines = flat_map (λ v. call_of v.request v.answered) lines

-- a history with these calls after its own
abbrev pub with_calls : HistoryState → List Call → HistoryState
with_calls h calls = record h { calls = h.calls ++ calls }

-- the history of a run on a heap of so many owners, with so many slots each
abbrev pub history_of : ℕ → ℕ → List Viewed → HistoryState
history_of owners slots lines = with_calls (empty_history owners slots) (calls_of lines)
