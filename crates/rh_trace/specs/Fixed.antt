-- The way of a heap that has the sizes of the first line, and is collected by the trace's own lines.
use Rattle.std.specs.Prelude.{◌≡◌, ℕ, List, [], Option, Some, None, Result, Ok, Err}
use Rattle.rh_core.specs.Config.{fault_of}
use Rattle.rh_engine.specs.Engine.{EngineState}
use Rattle.rh_syntax.specs.declared.line.Header.{Header}
use Rattle.rh_syntax.specs.declared.request.Request.{Request}
use Rattle.rh_syntax.specs.Spelling.{Script}
use Rattle.rh_trace.specs.declared.run_fault.RunFault.{RunFault}
use Rattle.rh_trace.specs.declared.summary.Summary.{Summary}
use Rattle.rh_trace.specs.declared.way_fault.Unprepared.{Unprepared}
use Rattle.rh_trace.specs.declared.way_fault.Unprepared.TheVariants as reasons
use Rattle.rh_trace.specs.declared.way_fault.WayFault.{WayFault}
use Rattle.rh_trace.specs.Answers.{Answered, answered_text, total_line}
use Rattle.rh_trace.specs.Lines.{Seen}
use Rattle.rh_trace.specs.Run.{config_of, new_run, request_step}
use Rattle.rh_trace.specs.Ways.{Ends, of_run_fault}

-- a trace begins with a new heap of its first line's sizes, which have no fault, and with no trays
abbrev pub IsFixedRun : Script → EngineState → Type 0
IsFixedRun script s = (fault_of (config_of script.header) ≡ None) × (s ≡ new_run script)

-- nothing is made where the sizes of the first line have a fault, or memory is refused
abbrev pub IsFixedRefusal : {F : Type 0} → Script → Unprepared F → Type 0
IsFixedRefusal script (reasons.New fault) = fault_of (config_of script.header) ≡ Some fault
IsFixedRefusal script (reasons.Trace fault) = ⊥
IsFixedRefusal script (reasons.Way fault) = ⊥
IsFixedRefusal script reasons.OutOfMemory = Unit {0}

-- a request is one step of the engine
abbrev pub EngineSteps : EngineState → Request → EngineState → Answered → Type 0
EngineSteps s request t answered =
    (t ≡ (request_step s request).0) × (answered ≡ (request_step s request).1)

module _ {S F : Type 0} (Steps : S → Request → S → Answered → Type 0)
    (total : S → Summary → Summary) (fits : Script → S → Type 0)
    (refuses : Script → Unprepared F → Type 0) where
  -- how a run of an input ends of which each answer is written, and then the total line
  abbrev pub AnswersEnd : List ℕ → Result Summary (WayFault F) → Option (List ℕ)
      → Option (List ℕ) → Type 0
  AnswersEnd input result old new =
      Ends {W = Unit {0}} Steps total (λ (l : Unit {0}) (one : Seen S). l)
      (λ (l : Unit {0}) (one : Seen S) w. answered_text one.answered)
      (λ (l : Unit {0}) summary w. total_line summary) tt (λ w. [])
      (λ (l : Unit {0}) (header : Header) (s : S). l) fits refuses ⊥ tt input result (λ w. old)
      (λ w. new)

-- the same on a heap of the first line's sizes
abbrev pub FixedEnds : {F : Type 0} → List ℕ → Result Summary (WayFault F) → Option (List ℕ)
    → Option (List ℕ) → Type 0
FixedEnds input result old new =
    AnswersEnd EngineSteps (λ s counted. counted) IsFixedRun IsFixedRefusal input result old new

-- what a run was answered, as one by a way
abbrev pub by_way : {F : Type 0} → Result Summary RunFault → Result Summary (WayFault F)
by_way (Ok summary) = Ok summary
by_way (Err fault) = Err (of_run_fault fault)
