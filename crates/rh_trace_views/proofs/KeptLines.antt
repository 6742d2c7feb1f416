-- The calls of lines are the commands that no limit refused, each with its answer.
use Rattle.std.proofs.Common.{◌≡◌, ℕ, ◌+◌, Bool, true, false, List, [], ◌∷◌, ◌++◌, refl, ap}
use Rattle.std.specs.Prelude.{cond, filter, map, not, zip}
use Rattle.rh_layout.specs.declared.command.Command.{Command}
use Rattle.rh_mutator.specs.Commands.{is_limit_answer}
use Rattle.rh_syntax.specs.declared.request.Request.{Request}
use Rattle.rh_syntax.specs.declared.request.Request.TheVariants as requests
use Rattle.rh_trace.specs.Answers as answers
use Rattle.rh_trace.specs.Answers.{Answered}
use Rattle.rh_replay.specs.declared.call.Call.{Call}
use Rattle.rh_trace_views.specs.History.{call_of, calls_of, kept_unless}
use Rattle.rh_trace_views.specs.Kept.{is_kept, line_of_call}
use Rattle.rh_trace_views.specs.Views.{numbered}

-- the calls of the lines after a line, and what is kept of these lines
module _ (calls : List Call) (lines : List (Request × Answered)) (same : map line_of_call calls ≡ lines) where
  call_first : (limited : Bool) (call : Call) → map line_of_call (kept_unless limited call ++ calls) ≡ cond (not limited) (line_of_call call ∷ lines) lines
  call_first true call = same
  call_first false call = ap (λ (xs : List (Request × Answered)). line_of_call call ∷ xs) same

  command_first : (owner : ℕ) (command : Command) (answered : Answered) → map line_of_call (call_of (requests.Command owner command) answered ++ calls)
      ≡ cond (is_kept (requests.Command owner command) answered) ((requests.Command owner command, answered) ∷ lines) lines
  command_first owner command (answers.Answer answer) = call_first (is_limit_answer answer) (record { owner = owner; command = command; answer = answer })
  command_first owner command answered = same

  line_first : (request : Request) (answered : Answered) → map line_of_call (call_of request answered ++ calls) ≡ cond (is_kept request answered) ((request, answered) ∷ lines) lines
  line_first (requests.Command owner command) answered = command_first owner command answered
  line_first request answered = same

pub kept_lines : (line : ℕ) (requests : List Request) (answers : List Answered) → map line_of_call (calls_of (numbered line requests answers)) ≡ filter (λ (x : Request × Answered). is_kept x.0 x.1) (zip requests answers)
kept_lines line [] answers = refl
kept_lines line (request ∷ others) [] = refl
kept_lines line (request ∷ others) (answered ∷ answers) =
    line_first (calls_of (numbered (line + 1) others answers)) (filter (λ (x : Request × Answered). is_kept x.0 x.1) (zip others answers)) (kept_lines (line + 1) others answers) request answered
