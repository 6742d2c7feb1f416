-- Commands, run one after the other on a heap to which something is given in each of them.
use Rattle.std.specs.Prelude.{ℕ, suc, List, [], ◌∷◌, Result}
use Rattle.rh_layout.specs.declared.command.Command.{Command}
use Rattle.rh_layout.specs.declared.command.Reply.{Reply}
use Rattle.rh_layout.specs.declared.refusal.Refusal.{Refusal}
use Rattle.rh_core.specs.runs.Programs.{CommandAnswers}
use Rattle.rh_trace.specs.declared.summary.Summary.{Summary}
use Rattle.rh_pace.specs.Paced.{PacedState}
use Rattle.rh_paced_trace.specs.Lines.{Commands}
use Rattle.rh_paced_trace.specs.Run.{output_of, summary_of}

module _ {X S : Type 0} (step : X → S → ℕ → Command → S × Result Reply Refusal) where
  -- what is answered to them; in each of them, from 0, this is given
  abbrev pub replies_by : (ℕ → X) → S → Commands → CommandAnswers
  replies_by given s [] = []
  replies_by given s (owned ∷ others) =
      let done = step (given 0) s owned.0 owned.1
      in done.1 ∷ replies_by (λ i. given (suc i)) done.0 others

  -- the heap after them
  abbrev pub after_by : (ℕ → X) → S → Commands → S
  after_by given s [] = s
  after_by given s (owned ∷ others) =
      after_by (λ i. given (suc i)) (step (given 0) s owned.0 owned.1).0 others

  -- what the answers add up to, and their text
  abbrev pub summary_by : (S → PacedState) → (ℕ → X) → S → Commands → Summary
  summary_by paced given s commands =
      summary_of (replies_by given s commands) (paced (after_by given s commands))

  abbrev pub output_by : (S → PacedState) → (ℕ → X) → S → Commands → List ℕ
  output_by paced given s commands =
      output_of (replies_by given s commands) (summary_by paced given s commands)
