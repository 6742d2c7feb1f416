-- Runs of commands by a way, which are viewed, end as their inputs say.
use Rattle.std.proofs.Common.{inl, inr, ℕ, List, Option, None, Result, Ok, Err}
use Rattle.rh_syntax.specs.Spelling.{Script}
use Rattle.rh_trace.specs.declared.stop.Stop.{Stop}
use Rattle.rh_trace.specs.declared.stop.Stop.TheVariants as stops
use Rattle.rh_trace.specs.declared.summary.Summary.{Summary}
use Rattle.rh_trace.specs.declared.way_fault.WayFault.{WayFault}
use Rattle.rh_trace.specs.declared.way_fault.WayFault.TheVariants as ends
use Rattle.rh_trace.specs.Ways as ways
use Rattle.rh_trace.specs.Ways.{IsTrace}
use Rattle.rh_paced_trace.specs.declared.fault.Unpaced.{Unpaced}
use Rattle.rh_paced_trace.specs.Commanded.{CommandSteps}
use Rattle.rh_paced_trace.specs.Growing.{HasNoGrowth, growth_of}
use Rattle.rh_paced_trace.specs.Run.{HasNoPace}
use Rattle.rh_paced_trace.specs.Ways.{IsGrowingStart, IsPacedStart}
use Rattle.rh_paced_trace.proofs.Played.{aided_step}
use Rattle.rh_paced_trace.proofs.WayEnds.{commands_end, growing_run, paced_run}
use Rattle.rh_choices.specs.declared.telling.Telling.{Telling}
use Rattle.rh_trace_views.specs.Cycles.{first_read}
use Rattle.rh_trace_views.specs.Listening.{ViewsWriter, views_begun, views_closing, views_next, views_opening, views_show, written_of}
use Rattle.rh_trace_views.specs.Run.{KeepsAll}
use Rattle.rh_trace_views.proofs.ScriptRuns.{keeps_all}
use Rattle.rh_commands.specs.Ways.{EndsGrowing, EndsPaced, ViewsEndGrowing, ViewsEndPaced}
use Rattle.rh_commands.proofs.WayRuns.{PacedSteps, growing_first, growing_read, growing_told, growing_total, paced_read, paced_told, paced_total}

module _ (mark : Option ℕ) (telling : Telling) (input : List ℕ) (old new : ViewsWriter → Option (List ℕ)) where
  -- a trace, played on the heap of its run
  abbrev PacedPlayed : Script → Result Summary Stop → Type 0
  PacedPlayed script result = ways.IsPlayedTrace PacedSteps paced_total (views_next paced_read) (views_show paced_read) views_closing (inl tt) views_opening (views_begun first_read) (IsPacedStart mark) ViewsWriter (telling, (None, None)) script result old new

  abbrev PacedEnded : Result Summary (WayFault Unpaced) → Type 0
  PacedEnded result = EndsPaced mark telling input result (written_of old new)

  paced_done : (script : Script) → IsTrace input script → (summary : Summary) → PacedPlayed script (Ok summary) → PacedEnded (Ok summary)
  paced_done script is summary (s, start, ended) =
      let lines = paced_told telling script start.0 s start.3 old new start.1.0 (Ok summary) ended in
      (script, start.0, paced_run mark input script s start is, lines.1, lines.2)

  paced_cut : (script : Script) → IsTrace input script → PacedPlayed script (Err stops.Write) → PacedEnded (Err ends.Write)
  paced_cut script is (s, start, ended) =
      let lines = paced_told telling script start.0 s start.3 old new start.1.0 (Err stops.Write) ended in
      (script, start.0, paced_run mark input script s start is, lines.1)

  paced_refused : (script : Script) → IsTrace input script → PacedPlayed script (Err stops.OutOfMemory) → PacedEnded (Err ends.OutOfMemory)
  paced_refused script is (s, start, ended) =
      let lines = paced_told telling script start.0 s start.3 old new start.1.0 (Err stops.OutOfMemory) ended in
      inr (script, start.0, paced_run mark input script s start is, lines.1)

  -- A viewed run at a mark, or at the pace of its sizes, ends as its input says.
  pub view-ends-paced : (result : Result Summary (WayFault Unpaced)) → ViewsEndPaced mark telling input result old new → PacedEnded result
  view-ends-paced =
      commands_end PacedSteps paced_total (views_next paced_read) (views_show paced_read) views_closing (inl tt) views_opening (views_begun first_read) (IsPacedStart mark) (HasNoPace mark) ViewsWriter (telling, (None, None)) input old new
      PacedEnded (KeepsAll (written_of old new)) (keeps_all old new) (λ kept. inl kept) paced_done paced_cut paced_refused

module _ (at_most : ℕ) (telling : Telling) (input : List ℕ) (old new : ViewsWriter → Option (List ℕ)) where
  abbrev GrowingPlayed : Script → Result Summary Stop → Type 0
  GrowingPlayed script result = ways.IsPlayedTrace (CommandSteps aided_step) growing_total (views_next growing_read) (views_show growing_read) views_closing (inl tt) views_opening (views_begun growing_first) (IsGrowingStart at_most) ViewsWriter (telling, (None, None)) script result old new

  abbrev GrowingEnded : Result Summary (WayFault Unpaced) → Type 0
  GrowingEnded result = EndsGrowing at_most telling input result (written_of old new)

  growing_done : (script : Script) → IsTrace input script → (summary : Summary) → GrowingPlayed script (Ok summary) → GrowingEnded (Ok summary)
  growing_done script is summary (s, start, ended) =
      let lines = growing_told telling script at_most s start.2 old new start.0.0 (Ok summary) ended in
      (script, lines.0, growing_run at_most input script s start is, lines.1, lines.2)

  growing_cut : (script : Script) → IsTrace input script → GrowingPlayed script (Err stops.Write) → GrowingEnded (Err ends.Write)
  growing_cut script is (s, start, ended) =
      let lines = growing_told telling script at_most s start.2 old new start.0.0 (Err stops.Write) ended in
      (script, lines.0, growing_run at_most input script s start is, lines.1)

  growing_refused : (script : Script) → IsTrace input script → GrowingPlayed script (Err stops.OutOfMemory) → GrowingEnded (Err ends.OutOfMemory)
  growing_refused script is (s, start, ended) =
      let lines = growing_told telling script at_most s start.2 old new start.0.0 (Err stops.OutOfMemory) ended in
      inr (script, lines.0, growing_run at_most input script s start is, lines.1)

  -- A viewed run on a heap that grows ends as its input says.
  pub view-ends-growing : (result : Result Summary (WayFault Unpaced)) → ViewsEndGrowing at_most telling input result old new → GrowingEnded result
  view-ends-growing =
      commands_end (CommandSteps aided_step) growing_total (views_next growing_read) (views_show growing_read) views_closing (inl tt) views_opening (views_begun growing_first) (IsGrowingStart at_most) (λ script. HasNoGrowth (growth_of script at_most)) ViewsWriter (telling, (None, None)) input old new
      GrowingEnded (KeepsAll (written_of old new)) (keeps_all old new) (λ kept. inl kept) growing_done growing_cut growing_refused
