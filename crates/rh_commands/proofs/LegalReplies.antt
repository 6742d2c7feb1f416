-- The history of commands that are answered as by a plain heap is legal.
use Rattle.std.proofs.Common.{◌≡◌, ℕ, ◌+◌, List, [], ◌∷◌, None, refl}
use Rattle.rh_model.specs.Plain.{PlainHeap, empty_plain}
use Rattle.rh_mutator.specs.Commands.{is_limit_answer, plain_unless}
use Rattle.rh_core.specs.runs.Programs.{CommandAnswers}
use Rattle.rh_syntax.specs.declared.request.Request.{Request}
use Rattle.rh_syntax.specs.declared.request.Request.TheVariants as requests
use Rattle.rh_replay.specs.Legal.{IsLegal}
use Rattle.rh_trace.specs.Run as traces
use Rattle.rh_paced_trace.specs.Lines.{commands_in, other_fault}
use Rattle.rh_paced_trace.specs.Run as paced
use Rattle.rh_trace_views.specs.History.{history_of}
use Rattle.rh_trace_views.specs.Views.{numbered}
use Rattle.rh_paced_trace.specs.Commanded.{answered_by}
use Rattle.rh_trace_views.proofs.PlainRuns.{HistoriesAreLegal}

-- answers to commands that are a plain heap's are so as answers to lines
plain_lines : (number : ℕ) (requests : List Request) (p : PlainHeap) (answers : CommandAnswers) → other_fault number requests ≡ None → paced.AreTransparent p (commands_in requests) answers
    → traces.AreTransparent p requests (answered_by answers)
plain_lines number [] p [] none plain = tt
plain_lines number [] p (a ∷ others) none plain = absurd plain
plain_lines number (requests.Command owner command ∷ others) p [] none plain = absurd plain
plain_lines number (requests.Command owner command ∷ others) p (a ∷ later) none plain =
    ((a, refl, plain.0), plain_lines (number + 1) others (plain_unless (is_limit_answer a) p owner command) later none plain.1)
plain_lines number (other ∷ others) p answers none plain = absurd cc

pub legal_replies : HistoriesAreLegal → (owners slots : ℕ) (requests : List Request) (answers : CommandAnswers) → other_fault 2 requests ≡ None → paced.AreTransparent (empty_plain owners slots) (commands_in requests) answers
    → IsLegal (history_of owners slots (numbered 2 requests (answered_by answers)))
legal_replies legal owners slots requests answers none plain =
    legal owners slots requests (answered_by answers) (plain_lines 2 requests (empty_plain owners slots) answers none plain)
