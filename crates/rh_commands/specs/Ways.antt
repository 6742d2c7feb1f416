-- What viewed runs on heaps that collect by themselves give, and how they end.
use Rattle.std.specs.Prelude.{◌≡◌, ◌⊎◌, ℕ, suc, Bool, List, [], ◌∷◌, ◌++◌, Option, Result}
use Rattle.std.specs.Io.KnownBytes.{Appends}
use Rattle.rh_layout.specs.declared.command.Command.{Command}
use Rattle.rh_layout.specs.declared.command.Reply.{Reply}
use Rattle.rh_layout.specs.declared.refusal.Refusal.{Refusal}
use Rattle.rh_core.specs.runs.Programs.{CommandAnswers}
use Rattle.rh_pace.specs.InTime.{paced_replies}
use Rattle.rh_pace.specs.Paced.{PacedState, paced_step}
use Rattle.rh_pace.specs.declared.pace.Pace.{Pace}
use Rattle.rh_syntax.specs.Spelling.{Script}
use Rattle.rh_replay.specs.Legal.{IsLegal}
use Rattle.rh_replay.specs.Spelling.{spelling}
use Rattle.rh_cycles.specs.declared.cycle.Cycle.{Cycle}
use Rattle.rh_cycles.specs.Cycles.{told_cycles}
use Rattle.rh_cycles.specs.Heaps.{CyclesState, after_step}
use Rattle.rh_growing.specs.Growing.{growing_step}
use Rattle.rh_trace.specs.declared.summary.Summary.{Summary}
use Rattle.rh_trace.specs.declared.way_fault.WayFault.{WayFault}
use Rattle.rh_trace.specs.Answers.{Answered}
use Rattle.rh_paced_trace.specs.Growing.{HasNoGrowth, IsGrowingRun, growing_answers_of, growing_sum_of, growth_of, new_growing_run}
use Rattle.rh_paced_trace.specs.declared.fault.Unpaced.{Unpaced}
use Rattle.rh_paced_trace.specs.Commanded.{CommandSteps, answered_by, total_at}
use Rattle.rh_paced_trace.specs.Lines.{Commands, commands_in}
use Rattle.rh_paced_trace.specs.Run.{AreSumsOf, CommandsEnd, HasNoPace, IsPlainRun, IsRun, new_run, sum_of}
use Rattle.rh_paced_trace.specs.Ways.{IsGrowingStart, IsPacedStart, LacksGrowth, LacksPace}
use Rattle.rh_choices.specs.declared.telling.Telling.{Telling}
use Rattle.rh_trace_views.specs.Cycles.{first_read}
use Rattle.rh_trace_views.specs.Listening.{ViewsEnd, ViewsWriter}
use Rattle.rh_trace_views.specs.Run.{IsCut, IsStopped, IsTold, KeepsAll, Written, history_with, told_of}

module _ {X S : Type 0} (paced : S → PacedState)
    (step : X → S → ℕ → Command → S × Result Reply Refusal) where
  -- The cycles that end at commands, where something is given in each step of the heap.
  abbrev pub cycles_by : (ℕ → X) → CyclesState → S → Commands → List Cycle
  cycles_by given c s [] = []
  cycles_by given c s (owned ∷ others) =
      (let done = (step (given 0) s owned.0 owned.1).0 in
      told_cycles (after_step c (paced done)).1
      ++ cycles_by (λ i. given (suc i)) (after_step c (paced done)).0 done others)

-- what the lines of a paced run are answered
abbrev pub paced_answered : Script → Pace → List Answered
paced_answered script pace =
    answered_by (paced_replies (new_run script pace) (commands_in script.requests))

-- those of a growing run, where this is given
abbrev pub growing_answered : Script → ℕ → (ℕ → Bool) → List Answered
growing_answered script at_most given = answered_by (growing_answers_of script at_most given)

-- the cycles that end in a paced run, in whose steps nothing is given
abbrev pub paced_cycles : Script → Pace → List Cycle
paced_cycles script pace =
    cycles_by {X = Unit {0}} (λ s. s) (λ nothing s owner command. paced_step s owner command)
    (λ i. tt) (first_read (new_run script pace)) (new_run script pace)
    (commands_in script.requests)

-- those of a growing run, where this is given
abbrev pub growing_cycles : Script → ℕ → (ℕ → Bool) → List Cycle
growing_cycles script at_most given =
    cycles_by (λ s. s.paced) growing_step given
    (first_read (new_growing_run script at_most).paced) (new_growing_run script at_most)
    (commands_in script.requests)

-- How a viewed run at a mark, or at the pace of its sizes, ends, as a viewed run does: of the faults
-- of the input the first is answered, and nothing was written.
abbrev pub EndsPaced : Option ℕ → Telling → List ℕ → Result Summary (WayFault Unpaced) → Written
    → Type 0
EndsPaced mark telling input result w =
    CommandsEnd (HasNoPace mark)
    (λ summary. (script : Script) × (pace : Pace) × IsRun mark input script pace
    × (summary ≡ sum_of script pace)
    × IsTold telling script (paced_answered script pace) summary (paced_cycles script pace) w)
    ((script : Script) × (pace : Pace) × IsRun mark input script pace
    × IsCut telling script (paced_answered script pace) (sum_of script pace)
    (paced_cycles script pace) w)
    (KeepsAll w ⊎ ((script : Script) × (pace : Pace) × IsRun mark input script pace
    × IsStopped telling script (paced_answered script pace) (paced_cycles script pace) w))
    (KeepsAll w) input result

-- The same of a growing run. Where something of its texts was written, the allocator gave what it
-- gave.
abbrev pub EndsGrowing : ℕ → Telling → List ℕ → Result Summary (WayFault Unpaced) → Written
    → Type 0
EndsGrowing at_most telling input result w =
    CommandsEnd (λ script. HasNoGrowth (growth_of script at_most))
    (λ summary. (script : Script) × (given : ℕ → Bool) × IsGrowingRun at_most input script
    × (summary ≡ growing_sum_of script at_most given)
    × IsTold telling script (growing_answered script at_most given) summary
    (growing_cycles script at_most given) w)
    ((script : Script) × (given : ℕ → Bool) × IsGrowingRun at_most input script
    × IsCut telling script (growing_answered script at_most given)
    (growing_sum_of script at_most given) (growing_cycles script at_most given) w)
    (KeepsAll w ⊎ ((script : Script) × (given : ℕ → Bool) × IsGrowingRun at_most input script
    × IsStopped telling script (growing_answered script at_most given)
    (growing_cycles script at_most given) w))
    (KeepsAll w) input result

-- Said of the plain heap alone: the bytes that a reader gave spell a trace of commands, these are
-- its answers but for limits, what was told and noted is theirs, and that history is legal.
pub record IsToldPlainly (telling : Telling) (from to : Option (List ℕ)) (w : Written)
    (summary : Summary) : Type 0 where
  pub script : Script
  pub answers : CommandAnswers
  pub run : IsPlainRun script answers from to
  pub sums : AreSumsOf answers summary
  pub told : Appends w.old w.new (told_of telling script.requests (answered_by answers) summary)
  pub noted :
      Appends w.history_old w.history_new (spelling (history_with script (answered_by answers)))
  pub legal : IsLegal (history_with script (answered_by answers))

-- Runs by a way that are viewed.

-- one at a mark, or at the pace of its sizes
abbrev pub ViewsEndPaced : Option ℕ → Telling → List ℕ → Result Summary (WayFault Unpaced)
    → (ViewsWriter → Option (List ℕ)) → (ViewsWriter → Option (List ℕ)) → Type 0
ViewsEndPaced mark telling input result old new =
    ViewsEnd (CommandSteps (λ (given : Unit {0}) s owner command. paced_step s owner command))
    (λ s counted. total_at s counted) first_read (λ s reader line entries. after_step reader s)
    (IsPacedStart mark) (LacksPace mark) telling input result old new

-- one on a heap that grows: in a command memory is asked for once
abbrev pub ViewsEndGrowing : ℕ → Telling → List ℕ → Result Summary (WayFault Unpaced)
    → (ViewsWriter → Option (List ℕ)) → (ViewsWriter → Option (List ℕ)) → Type 0
ViewsEndGrowing at_most telling input result old new =
    ViewsEnd
    (CommandSteps (λ (given : ℕ → Bool) s owner command. growing_step (given 0) s owner command))
    (λ s counted. total_at s.paced counted) (λ s. first_read s.paced)
    (λ s reader line entries. after_step reader s.paced) (IsGrowingStart at_most)
    (LacksGrowth at_most) telling input result old new
