-- What runs of traces of commands tell, where the heap begins as the trace says.
use Rattle.std.proofs.Common.{◌≡◌, ℕ, suc, Bool, false, List, [], ◌∷◌, ◌++◌, Option, None, Result, refl, inl, ap, ◌∙◌}
use Rattle.rh_pace.specs.InTime.{paced_replies}
use Rattle.rh_pace.specs.Paced.{PacedState, paced_step}
use Rattle.rh_cycles.specs.declared.cycle.Cycle.{Cycle}
use Rattle.rh_cycles.specs.declared.cycle.EntryCounts.{EntryCounts}
use Rattle.rh_cycles.specs.Cycles.{told_cycles}
use Rattle.rh_cycles.specs.Heaps.{CyclesState, after_step}
use Rattle.rh_pace.specs.declared.pace.Pace.{Pace}
use Rattle.rh_growing.specs.Growing.{GrowingState, growing_step}
use Rattle.rh_syntax.specs.declared.request.Request.{Request}
use Rattle.rh_syntax.specs.Spelling.{Script}
use Rattle.rh_trace.specs.declared.stop.Stop.{Stop}
use Rattle.rh_trace.specs.declared.summary.Summary.{Summary}
use Rattle.rh_trace.specs.Answers.{Answered}
use Rattle.rh_trace.specs.Lines.{LinesEnd, answers_in, summary_in}
use Rattle.rh_paced_trace.specs.Commanded.{CommandSteps, answered_by, total_at}
use Rattle.rh_paced_trace.specs.Growing.{growing_sum_of, new_growing_run}
use Rattle.rh_paced_trace.specs.Lines.{Commands, commands_in, other_fault}
use Rattle.rh_paced_trace.specs.Playing.{replies_by, summary_by}
use Rattle.rh_paced_trace.specs.Run.{new_run, sum_of, summary_to}
use Rattle.rh_paced_trace.proofs.Played.{aided_step, at_first, paced_of, replies-aided, replies-unaided, summary-aided, summary-unaided, unaided_step}
use Rattle.rh_choices.specs.declared.telling.Telling.{Telling}
use Rattle.rh_trace_views.specs.Cycles.{first_read}
use Rattle.rh_trace_views.specs.Listening.{ViewsWriter, views_closing, views_next, views_opening, views_show, written_of}
use Rattle.rh_trace_views.proofs.Listened.{AreTold, Played, begun, cycles_in, lines_told, told_by}
use Rattle.rh_commands.specs.Ways.{cycles_by, growing_answered, growing_cycles, paced_answered, paced_cycles}
use Rattle.rh_commands.proofs.CommandRuns.{Commanded, all_commanded, played_by, plays_commands}

-- ---- a heap at a pace

abbrev itself : PacedState → PacedState
itself s = s

abbrev nothing_given : ℕ → Unit {0}
nothing_given i = tt

-- commands to which nothing is given, played and read
abbrev pub PacedSteps : PacedState → Request → PacedState → Answered → Type 0
PacedSteps = CommandSteps unaided_step

abbrev pub paced_read : PacedState → CyclesState → ℕ → EntryCounts → CyclesState × Option Cycle
paced_read s reader line entries = after_step reader s

abbrev pub paced_total : PacedState → Summary → Summary
paced_total s counted = total_at s counted

-- what nothing is given to has the same cycles, whatever is given
cycles-unaided : (given : ℕ → Unit {0}) (c : CyclesState) (s : PacedState) (commands : Commands) → cycles_by itself unaided_step given c s commands ≡ cycles_by itself unaided_step nothing_given c s commands
cycles-unaided given c s [] = refl
cycles-unaided given c s (owned ∷ others) =
    let done = (paced_step s owned.0 owned.1).0 in
    ap (λ (cs : List Cycle). told_cycles (after_step c done).1 ++ cs) (cycles-unaided (λ i. given (suc i)) (after_step c done).0 done others)

module _ (telling : Telling) (script : Script) (pace : Pace) (s : PacedState) (begins : s ≡ new_run script pace) where
  -- what nothing is given to is answered as in a paced run, and has its cycles
  paced_same : (played : Played PacedSteps script s) → (only : Unit {0}) × (answers_in played.0 ≡ paced_answered script pace) × (summary_in paced_total s played.0 ≡ sum_of script pace)
      × (cycles_in paced_read (first_read s) played.0 ≡ paced_cycles script pace)
  paced_same played =
      let commands = commands_in script.requests in
      let is = played_by tt itself unaided_step s (first_read s) script.requests played.0 played.1 in (
        tt,
        is.1 ∙ ap answered_by (replies-unaided is.0 s commands) ∙ ap (λ (x : PacedState). answered_by (paced_replies x commands)) begins,
        is.2 ∙ summary-unaided is.0 s commands ∙ ap (λ (x : PacedState). summary_to x commands) begins,
        is.3 ∙ cycles-unaided is.0 (first_read s) s commands ∙ ap (λ (x : PacedState). cycles_by itself unaided_step nothing_given (first_read x) x commands) begins,
      )

  pub paced_told : (old new : ViewsWriter → Option (List ℕ)) → other_fault 2 script.requests ≡ None → (result : Result Summary Stop)
      → LinesEnd PacedSteps paced_total (views_next paced_read) (views_show paced_read) views_closing (inl tt) views_opening ViewsWriter (begun paced_read PacedSteps telling script s (first_read s)) s script.requests result old new
      → AreTold {G = Unit {0}} (λ only. paced_answered script pace) (λ only. sum_of script pace) (λ only. paced_cycles script pace) telling script (written_of old new) result
  paced_told old new none result ended =
      let q = first_read s in
      told_by (λ (p : Played PacedSteps script s). answers_in p.0) (λ p. summary_in paced_total s p.0) (λ p. cycles_in paced_read q p.0) (λ (only : Unit {0}). paced_answered script pace) (λ only. sum_of script pace) (λ only. paced_cycles script pace) paced_same telling script (written_of old new) result
      (lines_told paced_read PacedSteps telling script s q paced_total old new Commanded (plays_commands tt itself unaided_step) (all_commanded 2 script.requests none) ViewsWriter result ended)

-- ---- a heap that grows

-- what is given once in each command has the same cycles
cycles-aided : (given : ℕ → ℕ → Bool) (c : CyclesState) (s : GrowingState) (commands : Commands) → cycles_by paced_of aided_step given c s commands ≡ cycles_by paced_of growing_step (at_first given) c s commands
cycles-aided given c s [] = refl
cycles-aided given c s (owned ∷ others) =
    let done = (growing_step (given 0 0) s owned.0 owned.1).0 in
    ap (λ (cs : List Cycle). told_cycles (after_step c done.paced).1 ++ cs) (cycles-aided (λ i. given (suc i)) (after_step c done.paced).0 done others)

-- nothing is given yet
abbrev none_given : ℕ → Bool
none_given i = false

abbrev pub growing_read : GrowingState → CyclesState → ℕ → EntryCounts → CyclesState × Option Cycle
growing_read s reader line entries = after_step reader s.paced

abbrev pub growing_total : GrowingState → Summary → Summary
growing_total s counted = total_at s.paced counted

abbrev pub growing_first : GrowingState → CyclesState
growing_first s = first_read s.paced

module _ (telling : Telling) (script : Script) (at_most : ℕ) (s : GrowingState) (begins : s ≡ new_growing_run script at_most) where
  -- what is given once in each command is answered so, and has these cycles
  growing_same : (played : Played (CommandSteps aided_step) script s) → (given : ℕ → Bool) × (answers_in played.0 ≡ growing_answered script at_most given) × (summary_in growing_total s played.0 ≡ growing_sum_of script at_most given)
      × (cycles_in growing_read (growing_first s) played.0 ≡ growing_cycles script at_most given)
  growing_same played =
      let commands = commands_in script.requests in
      let is = played_by none_given paced_of aided_step s (growing_first s) script.requests played.0 played.1 in
      let given = at_first is.0 in (
        given,
        is.1 ∙ ap answered_by (replies-aided is.0 s commands) ∙ ap (λ (x : GrowingState). answered_by (replies_by growing_step given x commands)) begins,
        is.2 ∙ summary-aided is.0 s commands ∙ ap (λ (x : GrowingState). summary_by growing_step paced_of given x commands) begins,
        is.3 ∙ cycles-aided is.0 (growing_first s) s commands ∙ ap (λ (x : GrowingState). cycles_by paced_of growing_step given (growing_first x) x commands) begins,
      )

  pub growing_told : (old new : ViewsWriter → Option (List ℕ)) → other_fault 2 script.requests ≡ None → (result : Result Summary Stop)
      → LinesEnd (CommandSteps aided_step) growing_total (views_next growing_read) (views_show growing_read) views_closing (inl tt) views_opening ViewsWriter (begun growing_read (CommandSteps aided_step) telling script s (growing_first s)) s script.requests result old new
      → AreTold (growing_answered script at_most) (growing_sum_of script at_most) (growing_cycles script at_most) telling script (written_of old new) result
  growing_told old new none result ended =
      let q = growing_first s in
      told_by (λ (p : Played (CommandSteps aided_step) script s). answers_in p.0) (λ p. summary_in growing_total s p.0) (λ p. cycles_in growing_read q p.0) (growing_answered script at_most) (growing_sum_of script at_most) (growing_cycles script at_most) growing_same telling script (written_of old new) result
      (lines_told growing_read (CommandSteps aided_step) telling script s q growing_total old new Commanded (plays_commands none_given paced_of aided_step) (all_commanded 2 script.requests none) ViewsWriter result ended)
