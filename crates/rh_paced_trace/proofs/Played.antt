-- What a heap of either kind is given, where it insists on nothing: one that doesn't grow is answered
-- as `paced_replies` says, and one that grows as `growing_replies` does.
use Rattle.std.proofs.Common.{◌≡◌, ℕ, Bool, suc, [], ◌∷◌, Result, refl, ap, ◌∙◌}
use Rattle.rh_layout.specs.declared.command.Command.{Command}
use Rattle.rh_layout.specs.declared.command.Reply.{Reply}
use Rattle.rh_layout.specs.declared.refusal.Refusal.{Refusal}
use Rattle.rh_core.specs.runs.Programs.{CommandAnswers}
use Rattle.rh_trace.specs.declared.summary.Summary.{Summary}
use Rattle.rh_pace.specs.InTime.{paced_after, paced_replies}
use Rattle.rh_pace.specs.Paced.{PacedState, paced_step}
use Rattle.rh_growing.specs.Growing.{GrowingState, growing_step}
use Rattle.rh_paced_trace.specs.Growing.{growing_after, growing_replies}
use Rattle.rh_paced_trace.specs.Lines.{Commands}
use Rattle.rh_paced_trace.specs.Playing.{after_by, output_by, replies_by, summary_by}
use Rattle.rh_paced_trace.specs.Run.{output_of, output_to, summary_of, summary_to}

-- a command to which nothing is given
abbrev pub unaided_step : Unit {0} → PacedState → ℕ → Command → PacedState × Result Reply Refusal
unaided_step nothing s owner command = paced_step s owner command

abbrev itself : PacedState → PacedState
itself s = s

pub replies-unaided : (given : ℕ → Unit {0}) (s : PacedState) (commands : Commands) → replies_by unaided_step given s commands ≡ paced_replies s commands
replies-unaided given s [] = refl
replies-unaided given s (owned ∷ others) =
    let done = paced_step s owned.0 owned.1 in
    ap (λ (answers : CommandAnswers). done.1 ∷ answers) (replies-unaided (λ i. given (suc i)) done.0 others)

after-unaided : (given : ℕ → Unit {0}) (s : PacedState) (commands : Commands) → after_by unaided_step given s commands ≡ paced_after s commands
after-unaided given s [] = refl
after-unaided given s (owned ∷ others) = after-unaided (λ i. given (suc i)) (paced_step s owned.0 owned.1).0 others

module _ (given : ℕ → Unit {0}) (s : PacedState) (commands : Commands) where
  pub summary-unaided : summary_by unaided_step itself given s commands ≡ summary_to s commands
  summary-unaided =
      ap (λ (answers : CommandAnswers). summary_of answers (after_by unaided_step given s commands)) (replies-unaided given s commands)
      ∙ ap (λ (last : PacedState). summary_of (paced_replies s commands) last) (after-unaided given s commands)

  pub output-unaided : output_by unaided_step itself given s commands ≡ output_to s commands
  output-unaided =
      ap (λ (answers : CommandAnswers). output_of answers (summary_by unaided_step itself given s commands)) (replies-unaided given s commands)
      ∙ ap (λ (summary : Summary). output_of (paced_replies s commands) summary) summary-unaided

-- In a command that isn't insisted on, memory is asked for once.
abbrev pub aided_step : (ℕ → Bool) → GrowingState → ℕ → Command → GrowingState × Result Reply Refusal
aided_step given s owner command = growing_step (given 0) s owner command

abbrev pub paced_of : GrowingState → PacedState
paced_of s = s.paced

-- what is given there
abbrev pub at_first : (ℕ → ℕ → Bool) → ℕ → Bool
at_first given i = given i 0

pub replies-aided : (given : ℕ → ℕ → Bool) (s : GrowingState) (commands : Commands) → replies_by aided_step given s commands ≡ growing_replies (at_first given) s commands
replies-aided given s [] = refl
replies-aided given s (owned ∷ others) =
    let done = growing_step (given 0 0) s owned.0 owned.1 in
    ap (λ (answers : CommandAnswers). done.1 ∷ answers) (replies-aided (λ i. given (suc i)) done.0 others)

after-aided : (given : ℕ → ℕ → Bool) (s : GrowingState) (commands : Commands) → after_by aided_step given s commands ≡ growing_after (at_first given) s commands
after-aided given s [] = refl
after-aided given s (owned ∷ others) = after-aided (λ i. given (suc i)) (growing_step (given 0 0) s owned.0 owned.1).0 others

module _ (given : ℕ → ℕ → Bool) (s : GrowingState) (commands : Commands) where
  pub summary-aided : summary_by aided_step paced_of given s commands ≡ summary_by growing_step paced_of (at_first given) s commands
  summary-aided =
      ap (λ (answers : CommandAnswers). summary_of answers (after_by aided_step given s commands).paced) (replies-aided given s commands)
      ∙ ap (λ (last : GrowingState). summary_of (growing_replies (at_first given) s commands) last.paced) (after-aided given s commands)

  pub output-aided : output_by aided_step paced_of given s commands ≡ output_by growing_step paced_of (at_first given) s commands
  output-aided =
      ap (λ (answers : CommandAnswers). output_of answers (summary_by aided_step paced_of given s commands)) (replies-aided given s commands)
      ∙ ap (λ (summary : Summary). output_of (growing_replies (at_first given) s commands) summary) summary-aided
