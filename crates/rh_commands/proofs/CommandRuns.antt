-- Commands played on a heap that collects by itself: their answers and their cycles are those of its steps, in order.
use Rattle.std.proofs.Common.{◌≡◌, ℕ, ◌+◌, List, [], ◌∷◌, ◌++◌, Option, None, Result, refl, sym, ap, ◌∙◌}
use Rattle.std.specs.List.{AllByRecursion}
use Rattle.std.proofs.lemmas.Option.{none-some}
use Rattle.rh_layout.specs.declared.command.Command.{Command}
use Rattle.rh_layout.specs.declared.command.Reply.{Reply}
use Rattle.rh_layout.specs.declared.refusal.Refusal.{Refusal}
use Rattle.rh_pace.specs.Paced.{PacedState}
use Rattle.rh_cycles.specs.declared.cycle.Cycle.{Cycle}
use Rattle.rh_cycles.specs.declared.cycle.EntryCounts.{EntryCounts}
use Rattle.rh_cycles.specs.Cycles.{told_cycles}
use Rattle.rh_cycles.specs.Heaps.{CyclesState, after_step}
use Rattle.rh_syntax.specs.declared.fault.Kind.TheVariants.{Word}
use Rattle.rh_syntax.specs.Reading.{fault_at}
use Rattle.rh_syntax.specs.declared.request.Request.{Request}
use Rattle.rh_syntax.specs.declared.request.Request.TheVariants as requests
use Rattle.rh_trace.specs.Answers as answers
use Rattle.rh_trace.specs.Answers.{Answered}
use Rattle.rh_trace.specs.Lines.{Runs, Seen, answers_in, left_by, summary_in}
use Rattle.rh_trace.specs.Run.{summary_of}
use Rattle.rh_paced_trace.specs.Commanded.{CommandSteps, answered_by, total_at}
use Rattle.rh_paced_trace.specs.Lines.{commands_in, other_fault}
use Rattle.rh_paced_trace.specs.Playing.{after_by, replies_by, summary_by}
use Rattle.rh_paced_trace.proofs.CommandLines.{by_steps, total_at-answers}
use Rattle.rh_trace_views.proofs.Listened.{cycles_in}
use Rattle.rh_commands.specs.Ways.{cycles_by}

-- a request is a command
abbrev pub Commanded : Request → Type 0
Commanded (requests.Command owner command) = Unit {0}
Commanded other = ⊥

-- each is, where there is no other
pub all_commanded : (line : ℕ) (requests : List Request) → other_fault line requests ≡ None → AllByRecursion Commanded requests
all_commanded line [] none = tt
all_commanded line (requests.Command owner command ∷ others) none = (tt, all_commanded (line + 1) others none)
all_commanded line (request ∷ others) none = absurd (none-some (fault_at line Word) (sym none))

module _ {X S : Type 0} (usual : X) (paced : S → PacedState) (step : X → S → ℕ → Command → S × Result Reply Refusal) where
  pub plays_commands : (s : S) (request : Request) → Commanded request → (t : S) × (answered : Answered) × CommandSteps step s request t answered
  plays_commands s (requests.Command owner command) is =
      let done = step usual s owner command in (done.0, answers.Answer done.1, (usual, refl, refl))
  plays_commands s other is = absurd is

  -- what reads the heap reads it after each command, whatever its line
  abbrev heap_read : S → CyclesState → ℕ → EntryCounts → CyclesState × Option Cycle
  heap_read s reader line entries = after_step reader (paced s)

  cycles_in-steps : (line : ℕ) (s : S) (q : CyclesState) (requests : List Request) (seen : List (Seen S)) (runs : Runs (CommandSteps step) line s requests seen)
      → cycles_in heap_read q seen ≡ cycles_by paced step (by_steps usual step line s requests seen runs).0 q s (commands_in requests)
  unfolding by_steps
  cycles_in-steps line s q [] [] runs = refl
  cycles_in-steps line s q [] (one ∷ seen) runs = absurd runs
  cycles_in-steps line s q (r ∷ requests) [] runs = absurd runs
  cycles_in-steps line s q (requests.Command owner command ∷ others) (one ∷ seen) runs =
      let given = (by_steps usual step (line + 1) one.after others seen runs.3).0 in
      let done = (step runs.2.0 s owner command).0 in
      let read = after_step q (paced done) in
      ap (λ (n : S). told_cycles (after_step q (paced n)).1 ++ cycles_in heap_read (after_step q (paced n)).0 seen) runs.2.1
      ∙ ap (λ (cs : List Cycle). told_cycles read.1 ++ cs) (cycles_in-steps (line + 1) one.after read.0 others seen runs.3 ∙ ap (λ (n : S). cycles_by paced step given read.0 n (commands_in others)) runs.2.1)
  cycles_in-steps line s q (other ∷ others) (one ∷ seen) runs = absurd runs.2

  -- their answers, what they add up to, and their cycles, where this was given
  pub played_by : (s : S) (q : CyclesState) (requests : List Request) (seen : List (Seen S)) → Runs (CommandSteps step) 2 s requests seen
      → (given : ℕ → X) × (answers_in seen ≡ answered_by (replies_by step given s (commands_in requests))) × (summary_in (λ n counted. total_at (paced n) counted) s seen ≡ summary_by step paced given s (commands_in requests))
      × (cycles_in heap_read q seen ≡ cycles_by paced step given q s (commands_in requests))
  played_by s q requests seen runs =
      let played = by_steps usual step 2 s requests seen runs in
      let replies = replies_by step played.0 s (commands_in requests) in (
        played.0,
        played.1,
        ap (λ (xs : List Answered). total_at (paced (left_by s seen)) (summary_of xs)) played.1 ∙ ap (λ (n : S). total_at (paced n) (summary_of (answered_by replies))) played.2
            ∙ total_at-answers (paced (after_by step played.0 s (commands_in requests))) replies,
        cycles_in-steps 2 s q requests seen runs,
      )
