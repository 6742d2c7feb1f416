-- Runs by the ways of this crate end as runs of commands; and, where their answers are written, as
-- paced and growing runs.
use Rattle.std.proofs.Common.{inl, inr, ℕ, Bool, false, List, Option, Result, Ok, Err, sym, ap, subst, ◌∙◌}
use Rattle.std.specs.Io.KnownBytes.{Appends, Keeps}
use Rattle.rh_text.specs.Output.{AppendsLess}
use Rattle.rh_syntax.specs.declared.line.Header.{Header}
use Rattle.rh_syntax.specs.declared.request.Request.{Request}
use Rattle.rh_syntax.specs.Spelling.{Script}
use Rattle.rh_pace.specs.Paced.{PacedState}
use Rattle.rh_growing.specs.Growing.{GrowingState, growing_step}
use Rattle.rh_trace.specs.declared.run_fault.RunFault.{RunFault}
use Rattle.rh_trace.specs.declared.run_fault.RunFault.TheVariants as run_faults
use Rattle.rh_trace.specs.declared.stop.Stop.{Stop}
use Rattle.rh_trace.specs.declared.stop.Stop.TheVariants as stops
use Rattle.rh_trace.specs.declared.summary.Summary.{Summary}
use Rattle.rh_trace.specs.declared.way_fault.WayFault.{WayFault}
use Rattle.rh_trace.specs.declared.way_fault.WayFault.TheVariants as ends
use Rattle.rh_trace.specs.Answers.{Answered}
use Rattle.rh_trace.specs.Lines.{Seen}
use Rattle.rh_trace.specs.Ways as ways
use Rattle.rh_trace.specs.Ways.{IsTrace, IsUnread, KeepsAll, of_run_fault}
use Rattle.rh_paced_trace.specs.declared.fault.Unpaced.{Unpaced}
use Rattle.rh_paced_trace.specs.Commanded.{CommandSteps}
use Rattle.rh_paced_trace.specs.Growing.{EndsGrowing, HasNoGrowth, IsGrowingRun, growth_of}
use Rattle.rh_paced_trace.specs.Lines.{commands_in, fault_in}
use Rattle.rh_paced_trace.specs.Playing.{output_by, summary_by}
use Rattle.rh_paced_trace.specs.Run.{CommandsEnd, Ends, HasNoPace, IsCommandTrace, IsRun, output_to, summary_to}
use Rattle.rh_paced_trace.specs.Ways.{AnswersGrowing, AnswersPaced, HasSizes, IsGrowingStart, IsPacedStart, LacksHeap}
use Rattle.rh_paced_trace.proofs.CommandLines.{all_written, closing, less_written, next, no_other, opening, show, total}
use Rattle.rh_paced_trace.proofs.Played.{aided_step, at_first, output-aided, output-unaided, paced_of, summary-aided, summary-unaided, unaided_step}

-- a trace of commands that was read
command_trace : (input : List ℕ) (script : Script) → IsTrace input script → HasSizes script → IsCommandTrace input script
command_trace input script is has = record { few = is.0; read = is.1; commands = has.0 }

-- what such a run is of
pub paced_run : (mark : Option ℕ) (input : List ℕ) (script : Script) (s : PacedState) (start : IsPacedStart mark script s) → IsTrace input script → IsRun mark input script start.0
paced_run mark input script s start is = record { trace = command_trace input script is start.1; sizes = start.1.1; paced = start.2 }

pub growing_run : (at_most : ℕ) (input : List ℕ) (script : Script) (s : GrowingState) → IsGrowingStart at_most script s → IsTrace input script → IsGrowingRun at_most input script
growing_run at_most input script s start is = record { trace = command_trace input script is start.0; sizes = start.0.1; grows = start.1 }

-- Whatever is written of the lines, a run ends as a run of commands, where this is said of it.
module _ {S L W : Type 0} (Steps : S → Request → S → Answered → Type 0) (total : S → Summary → Summary) (next : L → Seen S → L) (show : L → Seen S → W → List ℕ) (closing : L → Summary → W → List ℕ) (lead : W) (opening : W → List ℕ)
    (begun : L → Header → S → L) (fits : Script → S → Type 0) (lacks : Script → Unpaced → Type 0) (Needs : Type 0) (l : L) (input : List ℕ) (old new : W → Option (List ℕ)) (E : Result Summary (WayFault Unpaced) → Type 0) (Kept : Type 0) where
  -- it ends so
  abbrev IsEnd : Result Summary (WayFault Unpaced) → Type 0
  IsEnd result = CommandsEnd lacks (λ summary. E (Ok summary)) (E (Err ends.Write)) (E (Err ends.OutOfMemory)) Kept input result

  -- a trace was played on the heap of its run
  abbrev Played : Script → Result Summary Stop → Type 0
  Played script result = ways.IsPlayedTrace Steps total next show closing lead opening begun fits Needs l script result old new

  module _ (kept : KeepsAll old new → Kept) (unrefused : Kept → E (Err ends.OutOfMemory))
      (done : (script : Script) → IsTrace input script → (summary : Summary) → Played script (Ok summary) → E (Ok summary))
      (cut : (script : Script) → IsTrace input script → Played script (Err stops.Write) → E (Err ends.Write))
      (refused : (script : Script) → IsTrace input script → Played script (Err stops.OutOfMemory) → E (Err ends.OutOfMemory)) where
    unread_ends : (fault : RunFault) → IsUnread input fault → KeepsAll old new → IsEnd (Err (of_run_fault fault))
    unread_ends run_faults.Long long keeps = (long, kept keeps)
    unread_ends (run_faults.Trace fault) is keeps = (is.0, ap fault_in is.1, kept keeps)
    unread_ends run_faults.Read is keeps = kept keeps
    unread_ends run_faults.OutOfMemory is keeps = unrefused (kept keeps)
    unread_ends (run_faults.New fault) is keeps = absurd is
    unread_ends run_faults.Write is keeps = absurd is

    trace_ends : (script : Script) → IsTrace input script → (result : Result Summary (WayFault Unpaced))
        → ways.TraceEnds Steps total next show closing lead opening begun fits (LacksHeap lacks) Needs l script result old new → IsEnd result
    trace_ends script is (Ok summary) ended = done script is summary ended
    trace_ends script is (Err ends.Write) ended = cut script is ended
    trace_ends script is (Err ends.OutOfMemory) (inl keeps) = unrefused (kept keeps)
    trace_ends script is (Err ends.OutOfMemory) (inr ended) = refused script is ended
    trace_ends script is (Err (ends.Trace fault)) ended = (is.0, ap fault_in is.1 ∙ ended.0, kept ended.1)
    trace_ends script is (Err (ends.New fault)) ended = (script, record { few = is.0; read = is.1; commands = ended.0.0 }, ended.0.1, kept ended.1)
    trace_ends script is (Err (ends.Way why)) ended = (script, command_trace input script is ended.0.0, ended.0.0.1, ended.0.1, kept ended.1)
    trace_ends script is (Err ends.Read) ended = absurd ended
    trace_ends script is (Err ends.Long) ended = absurd ended

    pub commands_end : (result : Result Summary (WayFault Unpaced))
        → ways.Ends Steps total next show closing lead opening begun fits (LacksHeap lacks) Needs l input result old new → IsEnd result
    commands_end result (inl unread) = subst IsEnd (sym unread.1) (unread_ends unread.0 unread.2 unread.3)
    commands_end result (inr traced) = trace_ends traced.0 traced.1 result traced.2

-- what the answers keep before the first line
abbrev pub begun : {S : Type 0} → Unit {0} → Header → S → Unit {0}
begun l header s = l

abbrev itself : PacedState → PacedState
itself s = s

-- nothing is given yet
abbrev pub none_given : ℕ → Bool
none_given i = false

-- Where the answers are written.
module _ (mark : Option ℕ) (input : List ℕ) (old new : Option (List ℕ)) where
  abbrev PacedPlayed : Script → Result Summary Stop → Type 0
  PacedPlayed script result = ways.IsPlayedTrace (CommandSteps unaided_step) (total tt unaided_step itself) (next tt unaided_step itself) (show tt unaided_step itself) (closing tt unaided_step itself) tt (opening tt unaided_step itself) begun (IsPacedStart mark) ⊥ tt script result (λ w. old) (λ w. new)

  paced_done : (script : Script) → IsTrace input script → (summary : Summary) → PacedPlayed script (Ok summary) → Ends mark input (Ok summary) old new
  paced_done script is summary played =
      let s = played.0 in
      let start = played.1 in
      let commands = commands_in script.requests in
      let written = all_written tt unaided_step itself s script.requests (λ w. old) (λ w. new) ⊥ summary played.2 in
      let sum = written.1 ∙ summary-unaided written.0 s commands ∙ ap (λ (n : PacedState). summary_to n commands) start.3 in
      let text = output-unaided written.0 s commands ∙ ap (λ (n : PacedState). output_to n commands) start.3 in
      (script, start.0, paced_run mark input script s start is, sum, subst (Appends old new) text written.2)

  paced_cut : (script : Script) → IsTrace input script → PacedPlayed script (Err stops.Write) → Ends mark input (Err ends.Write) old new
  paced_cut script is played =
      let s = played.0 in
      let start = played.1 in
      let commands = commands_in script.requests in
      let written = less_written tt unaided_step itself s script.requests (λ w. old) (λ w. new) ⊥ played.2 in
      let text = output-unaided written.0 s commands ∙ ap (λ (n : PacedState). output_to n commands) start.3 in
      (script, start.0, paced_run mark input script s start is, subst (AppendsLess old new) text written.1)

  -- no memory is asked for in the lines
  paced_refused : (script : Script) → IsTrace input script → PacedPlayed script (Err stops.OutOfMemory) → Keeps old new
  paced_refused script is played =
      elim played.2.0 as (λ _. Keeps old new) [
        | inl needs ↦ absurd needs
        | inr other ↦ absurd (no_other 2 script.requests played.1.1.0 other)
      ]

  -- A paced run ends as its input says.
  pub ends-paced : (result : Result Summary (WayFault Unpaced)) → AnswersPaced mark input result old new → Ends mark input result old new
  ends-paced =
      commands_end (CommandSteps unaided_step) (total tt unaided_step itself) (next tt unaided_step itself) (show tt unaided_step itself) (closing tt unaided_step itself) tt (opening tt unaided_step itself) begun (IsPacedStart mark) (HasNoPace mark) ⊥ tt input (λ w. old) (λ w. new)
      (λ result. Ends mark input result old new) (Keeps old new) (λ kept. kept tt) (λ kept. kept) paced_done paced_cut paced_refused

module _ (at_most : ℕ) (input : List ℕ) (old new : Option (List ℕ)) where
  abbrev GrowingPlayed : Script → Result Summary Stop → Type 0
  GrowingPlayed script result = ways.IsPlayedTrace (CommandSteps aided_step) (total none_given aided_step paced_of) (next none_given aided_step paced_of) (show none_given aided_step paced_of) (closing none_given aided_step paced_of) tt (opening none_given aided_step paced_of) begun (IsGrowingStart at_most) ⊥ tt script result (λ w. old) (λ w. new)

  growing_done : (script : Script) → IsTrace input script → (summary : Summary) → GrowingPlayed script (Ok summary) → EndsGrowing at_most input (Ok summary) old new
  growing_done script is summary played =
      let s = played.0 in
      let start = played.1 in
      let commands = commands_in script.requests in
      let written = all_written none_given aided_step paced_of s script.requests (λ w. old) (λ w. new) ⊥ summary played.2 in
      let given = at_first written.0 in
      let sum = written.1 ∙ summary-aided written.0 s commands ∙ ap (λ (n : GrowingState). summary_by growing_step paced_of given n commands) start.2 in
      let text = output-aided written.0 s commands ∙ ap (λ (n : GrowingState). output_by growing_step paced_of given n commands) start.2 in
      (script, given, growing_run at_most input script s start is, sum, subst (Appends old new) text written.2)

  growing_cut : (script : Script) → IsTrace input script → GrowingPlayed script (Err stops.Write) → EndsGrowing at_most input (Err ends.Write) old new
  growing_cut script is played =
      let s = played.0 in
      let start = played.1 in
      let commands = commands_in script.requests in
      let written = less_written none_given aided_step paced_of s script.requests (λ w. old) (λ w. new) ⊥ played.2 in
      let given = at_first written.0 in
      let text = output-aided written.0 s commands ∙ ap (λ (n : GrowingState). output_by growing_step paced_of given n commands) start.2 in
      (script, given, growing_run at_most input script s start is, subst (AppendsLess old new) text written.1)

  growing_refused : (script : Script) → IsTrace input script → GrowingPlayed script (Err stops.OutOfMemory) → Keeps old new
  growing_refused script is played =
      elim played.2.0 as (λ _. Keeps old new) [
        | inl needs ↦ absurd needs
        | inr other ↦ absurd (no_other 2 script.requests played.1.0.0 other)
      ]

  -- A growing run ends as its input says.
  pub ends-growing : (result : Result Summary (WayFault Unpaced)) → AnswersGrowing at_most input result old new → EndsGrowing at_most input result old new
  ends-growing =
      commands_end (CommandSteps aided_step) (total none_given aided_step paced_of) (next none_given aided_step paced_of) (show none_given aided_step paced_of) (closing none_given aided_step paced_of) tt (opening none_given aided_step paced_of) begun (IsGrowingStart at_most) (λ script. HasNoGrowth (growth_of script at_most)) ⊥ tt input (λ w. old) (λ w. new)
      (λ result. EndsGrowing at_most input result old new) (Keeps old new) (λ kept. kept tt) (λ kept. kept) growing_done growing_cut growing_refused
