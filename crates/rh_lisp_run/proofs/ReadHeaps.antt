-- A heap whose cycles are read, beside the heap.
use Rattle.std.proofs.Common.{◌≡◌, ℕ, zero, suc, [], ◌∷◌, ◌++◌, Option, None, Some, ap, refl}
use Rattle.std.specs.Option.{option_map_or}
use Rattle.rh_layout.specs.declared.command.Command.{Command}
use Rattle.rh_core.specs.runs.Programs.{Answerer, CommandAnswers, Program, answers_by}
use Rattle.rh_pace.specs.Paced.{PacedState}
use Rattle.rh_core.specs.CommandHeap.{Stepping}
use Rattle.rh_machine.specs.Machine.{Asking, Hearing, answerer_of, program_of, state_by}
use Rattle.rh_lisp_run.specs.Cycling.{ReadHeap, reading_steps}

module _ {S X C : Type 0} (paced : S → PacedState) (step : Stepping X S) (asks : Asking C) (hears : Hearing C) (given : CommandAnswers → X) (c : C) where
  abbrev narrow_by : Answerer S
  narrow_by = answerer_of step asks hears given c

  abbrev read_by : Answerer (ReadHeap S)
  read_by = answerer_of (reading_steps paced step) asks hears given c

  abbrev program : Program
  program = program_of asks hears c

  pub heap-read : (n : ℕ) (k : ReadHeap S) (so_far : CommandAnswers) → (state_by read_by program n k so_far).heap ≡ state_by narrow_by program n k.heap so_far
  heap-read zero k so_far = refl
  heap-read (suc n) k so_far = by (program so_far) (heap-read n)
    where
      by : (o : Option (ℕ × Command)) → ((k : ReadHeap S) (so_far : CommandAnswers) → (state_by read_by program n k so_far).heap ≡ state_by narrow_by program n k.heap so_far)
          → (option_map_or (λ (asked : ℕ × Command). let done = read_by so_far k asked.0 asked.1 in state_by read_by program n done.0 (so_far ++ done.1 ∷ [])) o k).heap
          ≡ option_map_or (λ (asked : ℕ × Command). let done = narrow_by so_far k.heap asked.0 asked.1 in state_by narrow_by program n done.0 (so_far ++ done.1 ∷ [])) o k.heap
      by None rest = refl
      by (Some asked) rest =
          let done = read_by so_far k asked.0 asked.1 in
          rest done.0 (so_far ++ done.1 ∷ [])

  pub answers-read : (n : ℕ) (k : ReadHeap S) (so_far : CommandAnswers) → answers_by read_by program n k so_far ≡ answers_by narrow_by program n k.heap so_far
  answers-read zero k so_far = refl
  answers-read (suc n) k so_far = by (program so_far) (answers-read n)
    where
      by : (o : Option (ℕ × Command)) → ((k : ReadHeap S) (so_far : CommandAnswers) → answers_by read_by program n k so_far ≡ answers_by narrow_by program n k.heap so_far)
          → option_map_or (λ (asked : ℕ × Command). let done = read_by so_far k asked.0 asked.1 in done.1 ∷ answers_by read_by program n done.0 (so_far ++ done.1 ∷ [])) o []
          ≡ option_map_or (λ (asked : ℕ × Command). let done = narrow_by so_far k.heap asked.0 asked.1 in done.1 ∷ answers_by narrow_by program n done.0 (so_far ++ done.1 ∷ [])) o []
      by None rest = refl
      by (Some asked) rest =
          let done = read_by so_far k asked.0 asked.1 in
          ap (λ (r : CommandAnswers). done.1 ∷ r) (rest done.0 (so_far ++ done.1 ∷ []))
