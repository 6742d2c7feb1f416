-- How a viewed run of a trace ends on a heap of the first line's sizes.
use Rattle.std.proofs.Common.{◌≡◌, ℕ, List, Option, None, Result, Ok, Err, inl, inr, refl, ap, subst, ◌∙◌}
use Rattle.std.specs.Io.KnownBytes.{Keeps}
use Rattle.rh_cycles.specs.Cycles.{cycles_of}
use Rattle.rh_engine.specs.Engine.{EngineState}
use Rattle.rh_syntax.specs.Spelling.{Script}
use Rattle.rh_trace.specs.declared.run_fault.RunFault.{RunFault}
use Rattle.rh_trace.specs.declared.run_fault.RunFault.TheVariants as faults
use Rattle.rh_trace.specs.declared.stop.Stop.{Stop}
use Rattle.rh_trace.specs.declared.stop.Stop.TheVariants as stops
use Rattle.rh_trace.specs.declared.summary.Summary.{Summary}
use Rattle.rh_trace.specs.declared.way_fault.WayFault.{WayFault}
use Rattle.rh_trace.specs.declared.way_fault.WayFault.TheVariants as ends
use Rattle.rh_trace.specs.Fixed.{EngineSteps, IsFixedRefusal, IsFixedRun, by_way}
use Rattle.rh_trace.specs.Lines.{LinesEnd, answers_in, summary_in}
use Rattle.rh_trace.specs.Run.{answers_of, answers_to, new_run, summary_of}
use Rattle.rh_trace.specs.Ways.{IsUnread, TraceEnds}
use Rattle.rh_trace.proofs.EngineLines.{all_played, answers_of_runs, engine_plays}
use Rattle.rh_choices.specs.declared.telling.Telling.{Telling}
use Rattle.rh_trace_views.specs.Cycles.{readings_to}
use Rattle.rh_trace_views.specs.Listening.{ViewsEndFixed, ViewsWriter, engine_first, engine_read, views_begun, views_closing, views_next, views_opening, views_show, written_of}
use Rattle.rh_trace_views.specs.Run.{Ends, IsTrace, KeepsAll, Written, run_cycles}
use Rattle.rh_trace_views.proofs.EngineRuns.{cycles_in-engine}
use Rattle.rh_trace_views.proofs.Listened.{AreTold, Played, begun, cycles_in, lines_told, told_by}

-- nothing was written
pub keeps_all : (old new : ViewsWriter → Option (List ℕ)) → ((w : ViewsWriter) → Keeps (old w) (new w)) → KeepsAll (written_of old new)
keeps_all old new kept = (kept (inl tt), kept (inr (inl tt)), kept (inr (inr tt)))

-- what is counted is what lines add up to
abbrev counts : EngineState → Summary → Summary
counts s counted = counted

-- a trace that was read
abbrev Traced : {F : Type 0} → Telling → Script → Result Summary (WayFault F) → (ViewsWriter → Option (List ℕ)) → (ViewsWriter → Option (List ℕ)) → Type 0
Traced telling script result old new =
    TraceEnds EngineSteps counts (views_next engine_read) (views_show engine_read) views_closing (inl tt) views_opening (views_begun engine_first) IsFixedRun IsFixedRefusal ViewsWriter (telling, (None, None)) script result old new

module _ (telling : Telling) (input : List ℕ) (script : Script) (trace : IsTrace input script) (old new : ViewsWriter → Option (List ℕ)) where
  -- what was played is what the run is answered, and its cycles
  same : (s : EngineState) → s ≡ new_run script → (played : Played EngineSteps script s)
      → (only : Unit {0}) × (answers_in played.0 ≡ answers_of script) × (summary_in counts s played.0 ≡ summary_of (answers_of script))
      × (cycles_in engine_read (engine_first s) played.0 ≡ run_cycles script)
  same s begins played =
      let is = answers_of_runs 2 s script.requests played.0 played.1 ∙ ap (λ (x : EngineState). answers_to x script.requests) begins in
      (tt, is, ap summary_of is, cycles_in-engine 2 s (engine_first s) script.requests played.0 played.1 ∙ ap (λ (x : EngineState). cycles_of (engine_first x) (readings_to 2 x script.requests)) begins)

  told : (s : EngineState) → s ≡ new_run script → (result : Result Summary Stop) → LinesEnd EngineSteps counts (views_next engine_read) (views_show engine_read) views_closing (inl tt) views_opening ViewsWriter (begun engine_read EngineSteps telling script s (engine_first s)) s script.requests result old new
      → AreTold {G = Unit {0}} (λ only. answers_of script) (λ only. summary_of (answers_of script)) (λ only. run_cycles script) telling script (written_of old new) result
  told s begins result ended =
      let q = engine_first s in
      told_by (λ (p : Played EngineSteps script s). answers_in p.0) (λ p. summary_in counts s p.0) (λ p. cycles_in engine_read q p.0) (λ (only : Unit {0}). answers_of script) (λ only. summary_of (answers_of script)) (λ only. run_cycles script) (same s begins) telling script (written_of old new) result
      (lines_told engine_read EngineSteps telling script s q counts old new (λ request. Unit {0}) engine_plays (all_played script.requests) ViewsWriter result ended)

  ends-traced : (F : Type 0) (result : Result Summary RunFault) → Traced {F = F} telling script (by_way result) old new → Ends telling input result (written_of old new)
  ends-traced F (Ok summary) ended =
      let lines = told ended.0 ended.1.1 (Ok summary) ended.2 in (script, (trace, ended.1.0), lines.1, lines.2)
  ends-traced F (Err faults.Write) ended =
      let lines = told ended.0 ended.1.1 (Err stops.Write) ended.2 in (script, (trace, ended.1.0), lines.1)
  ends-traced F (Err faults.OutOfMemory) (inl kept) = inl (keeps_all old new kept)
  ends-traced F (Err faults.OutOfMemory) (inr ended) =
      let lines = told ended.0 ended.1.1 (Err stops.OutOfMemory) ended.2 in inr (script, (trace, ended.1.0), lines.1)
  ends-traced F (Err (faults.Trace fault)) ended = absurd ended.0
  ends-traced F (Err (faults.New fault)) ended = (script, trace, ended.0, keeps_all old new ended.1)
  ends-traced F (Err faults.Read) ended = absurd ended
  ends-traced F (Err faults.Long) ended = absurd ended

ends-unread : (telling : Telling) (input : List ℕ) (fault : RunFault) (w : Written) → IsUnread input fault → KeepsAll w → Ends telling input (Err fault) w
ends-unread telling input faults.Long w unread kept = (unread, kept)
ends-unread telling input (faults.Trace fault) w unread kept = (unread.0, unread.1, kept)
ends-unread telling input faults.Read w unread kept = kept
ends-unread telling input faults.OutOfMemory w unread kept = inl kept
ends-unread telling input (faults.New fault) w unread kept = absurd unread
ends-unread telling input faults.Write w unread kept = absurd unread

-- the outcome of any run by such a way is one that a run may have
run_result : {F : Type 0} (telling : Telling) (script : Script) (outcome : Result Summary (WayFault F)) (old new : ViewsWriter → Option (List ℕ)) → Traced telling script outcome old new → (result : Result Summary RunFault) × (outcome ≡ by_way result)
run_result telling script (Ok summary) old new ended = (Ok summary, refl)
run_result telling script (Err ends.Write) old new ended = (Err faults.Write, refl)
run_result telling script (Err ends.OutOfMemory) old new ended = (Err faults.OutOfMemory, refl)
run_result telling script (Err (ends.Trace fault)) old new ended = absurd ended.0
run_result telling script (Err (ends.New fault)) old new ended = (Err (faults.New fault), refl)
run_result telling script (Err (ends.Way fault)) old new ended = absurd ended.0
run_result telling script (Err ends.Read) old new ended = absurd ended
run_result telling script (Err ends.Long) old new ended = absurd ended

pub ends_plainly : {F : Type 0} (telling : Telling) (input : List ℕ) (outcome : Result Summary (WayFault F)) (old new : ViewsWriter → Option (List ℕ)) → ViewsEndFixed telling input outcome old new
    → (result : Result Summary RunFault) × (outcome ≡ by_way result) × Ends telling input result (written_of old new)
ends_plainly telling input outcome old new (inl unread) =
    (Err unread.0, unread.1, ends-unread telling input unread.0 (written_of old new) unread.2 (keeps_all old new unread.3))
ends_plainly {F} telling input outcome old new (inr (script, trace, ended)) =
    let run = run_result telling script outcome old new ended in
    (run.0, run.1, ends-traced telling input script trace old new F run.0 (subst (λ (o : Result Summary (WayFault F)). Traced telling script o old new) run.1 ended))
