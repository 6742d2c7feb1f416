-- How a run of a trace ends the program, whatever its way.
use Rattle.std.specs.Prelude.{◌≡◌, ◌⊎◌, ℕ, List, Option, Result, Ok, Err}
use Rattle.rh_syntax.specs.declared.request.Request.{Request}
use Rattle.rh_syntax.specs.Spelling.{Script}
use Rattle.rh_trace.specs.declared.run_fault.RunFault.{RunFault}
use Rattle.rh_trace.specs.declared.summary.Summary.{Summary}
use Rattle.rh_trace.specs.declared.way_fault.Unprepared.{Unprepared}
use Rattle.rh_trace.specs.declared.way_fault.WayFault.{WayFault}
use Rattle.rh_trace.specs.declared.way_fault.WayFault.TheVariants as ends
use Rattle.rh_trace.specs.Answers.{Answered}
use Rattle.rh_trace.specs.Fixed.{AnswersEnd, by_way}
use Rattle.rh_trace.specs.Run.{Ends}
use Rattle.rh_paced_trace.specs.declared.fault.Unpaced.{Unpaced}
use Rattle.rh_paced_trace.specs.declared.fault.Unpaced.TheVariants as unpaced
use Rattle.rh_paced_trace.specs.Growing.{EndsGrowing}
use Rattle.rh_paced_trace.specs.Run.{Ends as PacedEnds}
use Rattle.rh_commands.specs.declared.fault.LineFault.{LineFault}
use Rattle.rh_commands.specs.declared.fault.LineFault.TheVariants as faults
use Rattle.rh_commands.specs.Fault.{status_of}
use Rattle.rh_commands.specs.ViewLog.{HasCause, ViewLogState}
use Rattle.rh_choices.specs.declared.telling.Telling.{Telling}
use Rattle.rh_cycles.specs.declared.cycle.Cycle.{Cycle}
use Rattle.rh_cycles.specs.declared.cycle.EntryCounts.{EntryCounts}
use Rattle.rh_trace_views.specs.Listening.{ViewsEnd, ViewsWriter}

-- the fault of the program that a run's is told as
abbrev pub way_told_as : WayFault Unpaced → LineFault
way_told_as ends.Read = faults.Read
way_told_as ends.Long = faults.TooLong
way_told_as (ends.Trace fault) = faults.Trace fault
way_told_as (ends.New fault) = faults.Heap fault
way_told_as (ends.Way unpaced.Limits) = faults.Limits
way_told_as (ends.Way (unpaced.Pace why)) = faults.Pace why
way_told_as ends.Write = faults.Write
way_told_as ends.OutOfMemory = faults.OutOfMemory

-- and its status
abbrev pub way_status : WayFault Unpaced → ℕ
way_status fault = status_of (way_told_as fault)

-- the status after a run: 0 where it is done, or 1 where the last flush failed; else its fault's
abbrev pub IsWayStatus : Result Summary (WayFault Unpaced) → ℕ → Type 0
IsWayStatus (Ok summary) status = (status ≡ 0) ⊎ (status ≡ 1)
IsWayStatus (Err fault) status = status ≡ way_status fault

-- a run ended so, and the status is that ending's
abbrev pub ConcludesBy : (Result Summary (WayFault Unpaced) → Type 0) → ℕ → Type 0
ConcludesBy Ended status =
    (outcome : Result Summary (WayFault Unpaced)) × Ended outcome × IsWayStatus outcome status

-- a run on a heap of the first line's sizes ended in a way that fits what is due for its input and
-- what was written, and the status is that ending's
abbrev pub ConcludesRun : Result (List ℕ × Summary) RunFault → ℕ → Option (List ℕ) → Option (List ℕ)
    → Type 0
ConcludesRun due status old new =
    (outcome : Result Summary RunFault) × Ends due outcome old new
    × IsWayStatus (by_way outcome) status

-- the paced run at this mark ended in a way that fits its input and what was written
abbrev pub ConcludesPaced : Option ℕ → List ℕ → ℕ → Option (List ℕ) → Option (List ℕ) → Type 0
ConcludesPaced mark input status old new =
    ConcludesBy (λ outcome. PacedEnds mark input outcome old new) status

-- the same of a run on a heap that grows to at most so many words
abbrev pub ConcludesGrowing : ℕ → List ℕ → ℕ → Option (List ℕ) → Option (List ℕ) → Type 0
ConcludesGrowing at_most input status old new =
    ConcludesBy (λ outcome. EndsGrowing at_most input outcome old new) status

-- a viewed run ended so, the status is that ending's, and its calls went so that it ended so
abbrev pub ConcludesViewedBy : (Result Summary (WayFault Unpaced) → Type 0) → ℕ → ViewLogState
    → Type 0
ConcludesViewedBy Ended status log =
    (outcome : Result Summary (WayFault Unpaced)) × Ended outcome × IsWayStatus outcome status
    × HasCause Summary (WayFault Unpaced) ends.Read ends.Write outcome status log

-- the run of an input by a way, of which the answers are written, ended in a way that fits the input
-- and what was written, and the status is that ending's
abbrev pub ConcludesWay : {S : Type 0} → (S → Request → S → Answered → Type 0)
    → (S → Summary → Summary) → (Script → S → Type 0) → (Script → Unprepared Unpaced → Type 0)
    → List ℕ → ℕ → Option (List ℕ) → Option (List ℕ) → Type 0
ConcludesWay Steps total fits refuses input status old new =
    ConcludesBy (λ outcome. AnswersEnd Steps total fits refuses input outcome old new) status

-- the same of a run that is viewed
abbrev pub ConcludesViewedWay : {S R : Type 0} → (S → Request → S → Answered → Type 0)
    → (S → Summary → Summary) → (S → R) → (S → R → ℕ → EntryCounts → R × Option Cycle)
    → (Script → S → Type 0) → (Script → Unprepared Unpaced → Type 0) → Telling → List ℕ → ℕ
    → ViewLogState → (ViewsWriter → Option (List ℕ)) → (ViewsWriter → Option (List ℕ)) → Type 0
ConcludesViewedWay Steps total first read fits refuses telling input status log old new =
    ConcludesViewedBy
    (λ outcome. ViewsEnd Steps total first read fits refuses telling input outcome old new) status
    log
