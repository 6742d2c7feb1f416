-- A trace of commands is a program, whose next command is that of the next line.
use Rattle.std.proofs.Common.{◌≡◌, ℕ, suc, ◌+◌, Bool, false, [], ◌∷◌, ◌++◌, length, Option, Some, refl, sym, ap, ◌∙◌, arith}
use Rattle.std.specs.Prelude.{Result, slice_get}
use Rattle.std.specs.Option.{option_map_or}
use Rattle.std.proofs.lemmas.List.{length_push}
use Rattle.rh_layout.specs.declared.command.Command.{Command}
use Rattle.rh_layout.specs.declared.command.Reply.{Reply}
use Rattle.rh_layout.specs.declared.refusal.Refusal.{Refusal}
use Rattle.rh_core.specs.runs.Programs.{Answerer, CommandAnswers, Program, answers_by}
use Rattle.rh_pace.specs.InTime.{paced_replies}
use Rattle.rh_pace.specs.Paced.{PacedState}
use Rattle.rh_pace.specs.Programs.{Insists, paced_answers}
use Rattle.rh_growing.specs.Growing.{GrowingState, growing_step}
use Rattle.rh_growing.specs.Programs.{growing_answers}
use Rattle.rh_paced_trace.specs.Growing.{growing_replies}
use Rattle.rh_paced_trace.specs.Lines.{Commands}
use Rattle.rh_paced_trace.specs.Playing.{replies_by}
use Rattle.rh_paced_trace.proofs.Played.{replies-unaided, unaided_step}

-- it insists on nothing
abbrev nothing : Insists
nothing so_far = false

module _ (all : Commands) where
  abbrev lines : Program
  lines so_far = slice_get all (length so_far)

  module _ {X S : Type 0} (step : X → S → ℕ → Command → S × Result Reply Refusal) (given : ℕ → X) where
    -- to each command is given what is given to its line
    abbrev by_lines : Answerer S
    by_lines so_far s owner command = step (given (length so_far)) s owner command

    -- the next commands are those that are left, and so is what is given to them
    answers-lines : (left : Commands) (later : ℕ → X) (s : S) (so_far : CommandAnswers)
        → ((k : ℕ) → slice_get left k ≡ slice_get all (length so_far + k)) → ((k : ℕ) → later k ≡ given (length so_far + k))
        → replies_by step later s left ≡ answers_by by_lines lines (length left) s so_far
    answers-lines [] later s so_far are give = refl
    answers-lines (owned ∷ others) later s so_far are give =
        let here : length so_far + 0 ≡ length so_far = omega arith in
        let asked : Some owned ≡ slice_get all (length so_far) = are 0 ∙ ap (slice_get all) here in
        let first : later 0 ≡ given (length so_far) = give 0 ∙ ap given here in
        let done = step (given (length so_far)) s owned.0 owned.1 in
        let more : CommandAnswers = so_far ++ done.1 ∷ [] in
        let longer = length_push so_far done.1 in
        let on = λ (k : ℕ). (let moved : length so_far + suc k ≡ length more + k = omega (arith, longer) in moved) in
        ap (λ (x : X). let r = step x s owned.0 owned.1 in r.1 ∷ replies_by step (λ i. later (suc i)) r.0 others) first
        ∙ ap (λ (answers : CommandAnswers). done.1 ∷ answers)
        (answers-lines others (λ i. later (suc i)) done.0 more (λ k. are (suc k) ∙ ap (slice_get all) (on k)) (λ k. give (suc k) ∙ ap given (on k)))
        ∙ ap (λ (next_one : Option (ℕ × Command)). option_map_or
        (λ (one : ℕ × Command).
        let r = step (given (length so_far)) s one.0 one.1 in
        r.1 ∷ answers_by by_lines lines (length others) r.0 (so_far ++ r.1 ∷ []))
        next_one []) asked

    -- so all are
    pub replies-lines : (s : S) → replies_by step given s all ≡ answers_by by_lines lines (length all) s []
    replies-lines s =
        let same = λ (k : ℕ). (let is : k ≡ 0 + k = omega arith in is) in
        answers-lines all given s [] (λ k. ap (slice_get all) (same k)) (λ k. ap given (same k))

  -- of a paced heap, to which nothing is given
  pub paced-lines : (s : PacedState) → paced_replies s all ≡ paced_answers lines nothing (length all) s []
  paced-lines s = sym (replies-unaided (λ i. tt) s all) ∙ replies-lines unaided_step (λ i. tt) s

  -- and of one that grows
  pub growing-lines : (given : ℕ → Bool) (s : GrowingState) → growing_replies given s all ≡ growing_answers lines nothing (λ so_far i. given (length so_far)) (length all) s []
  growing-lines given s = replies-lines growing_step given s
