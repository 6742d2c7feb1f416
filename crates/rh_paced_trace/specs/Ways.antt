-- Which heap a trace of commands is run on, and why there is none.
use Rattle.std.specs.Prelude.{◌≡◌, ℕ, Bool, List, Option, Some, None, Result, Ok}
use Rattle.rh_mutator.specs.Config.{fault_of}
use Rattle.rh_syntax.specs.Spelling.{Script}
use Rattle.rh_trace.specs.declared.summary.Summary.{Summary}
use Rattle.rh_trace.specs.declared.way_fault.Unprepared.{Unprepared}
use Rattle.rh_trace.specs.declared.way_fault.Unprepared.TheVariants as reasons
use Rattle.rh_trace.specs.declared.way_fault.WayFault.{WayFault}
use Rattle.rh_trace.specs.Fixed.{AnswersEnd}
use Rattle.rh_trace.specs.Run.{config_of}
use Rattle.rh_pace.specs.declared.pace.Pace.{Pace}
use Rattle.rh_pace.specs.Paced.{PacedState, paced_step}
use Rattle.rh_growing.specs.declared.growth.Growth.{Growth}
use Rattle.rh_growing.specs.Growth.{IsGrowth}
use Rattle.rh_growing.specs.Growing.{GrowingState, growing_step}
use Rattle.rh_paced_trace.specs.declared.fault.Unpaced.{Unpaced}
use Rattle.rh_paced_trace.specs.Commanded.{CommandSteps, total_at}
use Rattle.rh_paced_trace.specs.Growing.{HasNoGrowth, growth_of, new_growing_run}
use Rattle.rh_paced_trace.specs.Lines.{other_fault}
use Rattle.rh_paced_trace.specs.Pacing.{IsPaceOf}
use Rattle.rh_paced_trace.specs.Run.{HasNoPace, new_run}

-- the trace has commands alone, and the sizes of its first line have no fault
abbrev pub HasSizes : Script → Type 0
HasSizes script =
    (other_fault 2 script.requests ≡ None) × (fault_of (config_of script.header) ≡ None)

-- why it isn't so: of a line that is no command the fault comes first
abbrev pub LacksSizes : Script → Unprepared Unpaced → Type 0
LacksSizes script (reasons.Trace fault) = other_fault 2 script.requests ≡ Some fault
LacksSizes script (reasons.New fault) =
    (other_fault 2 script.requests ≡ None)
    × (fault_of (config_of script.header) ≡ Some fault)
LacksSizes script (reasons.Way fault) = ⊥
LacksSizes script reasons.OutOfMemory = ⊥

-- the same, and of a trace that has them, why there is no heap for it; or memory was refused
abbrev pub LacksHeap : (Script → Unpaced → Type 0) → Script → Unprepared Unpaced → Type 0
LacksHeap lacks script (reasons.Trace fault) = LacksSizes script (reasons.Trace fault)
LacksHeap lacks script (reasons.New fault) = LacksSizes script (reasons.New fault)
LacksHeap lacks script (reasons.Way why) = HasSizes script × lacks script why
LacksHeap lacks script reasons.OutOfMemory = Unit {0}

-- the heap of a paced run of a trace, by the mark where one is asked for, and why there is none
abbrev pub IsPacedStart : Option ℕ → Script → PacedState → Type 0
IsPacedStart mark script s =
    (pace : Pace) × HasSizes script × IsPaceOf mark script (Ok pace) × (s ≡ new_run script pace)

abbrev pub LacksPace : Option ℕ → Script → Unprepared Unpaced → Type 0
LacksPace mark = LacksHeap (HasNoPace mark)

-- the heap of a growing run of a trace, and why there is none
abbrev pub IsGrowingStart : ℕ → Script → GrowingState → Type 0
IsGrowingStart at_most script s =
    HasSizes script × IsGrowth (growth_of script at_most) × (s ≡ new_growing_run script at_most)

abbrev pub LacksGrowth : ℕ → Script → Unprepared Unpaced → Type 0
LacksGrowth at_most = LacksHeap (λ script. HasNoGrowth (growth_of script at_most))

-- why no heap was made that grows so, whose sizes have no fault
abbrev pub IsGrowthFault : Growth → Unprepared Unpaced → Type 0
IsGrowthFault growth (reasons.Way why) = HasNoGrowth growth why
IsGrowthFault growth reasons.OutOfMemory = Unit {0}
IsGrowthFault growth (reasons.Trace fault) = ⊥
IsGrowthFault growth (reasons.New fault) = ⊥

-- how a run by the way of a paced run ends, whose answers are written
abbrev pub AnswersPaced : Option ℕ → List ℕ → Result Summary (WayFault Unpaced)
    → Option (List ℕ) → Option (List ℕ) → Type 0
AnswersPaced mark input result old new =
    AnswersEnd
    (CommandSteps (λ (given : Unit {0}) s owner command. paced_step s owner command)) total_at
    (IsPacedStart mark) (LacksPace mark) input result old new

-- and one by the way of a growing run: in a command memory is asked for once
abbrev pub AnswersGrowing : ℕ → List ℕ → Result Summary (WayFault Unpaced)
    → Option (List ℕ) → Option (List ℕ) → Type 0
AnswersGrowing at_most input result old new =
    AnswersEnd
    (CommandSteps (λ (given : ℕ → Bool) s owner command. growing_step (given 0) s owner command))
    (λ s counted. total_at s.paced counted) (IsGrowingStart at_most)
    (LacksGrowth at_most) input result old new
