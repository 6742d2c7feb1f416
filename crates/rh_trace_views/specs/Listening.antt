-- What is kept of a run from line to line, to be told, noted or counted, and what is written of a line.
use Rattle.std.specs.Prelude.{◌⊎◌, ℕ, ◌+◌, ◌≤◌, List, [], length, Option, Some, None, Result}
use Rattle.std.proofs.Common.{inl, inr}
use Rattle.rh_core.specs.Stat.{stat_of}
use Rattle.rh_cycles.specs.declared.cycle.Cycle.{Cycle}
use Rattle.rh_cycles.specs.declared.cycle.EntryCounts.{EntryCounts}
use Rattle.rh_cycles.specs.Cycles.{ReaderState, new_reader, read_step, told_cycles}
use Rattle.rh_cycles.specs.Line.{cycles_header}
use Rattle.rh_engine.specs.Engine.{EngineState}
use Rattle.rh_syntax.specs.declared.line.Header.{Header}
use Rattle.rh_syntax.specs.declared.request.Request.{Request}
use Rattle.rh_syntax.specs.Spelling.{Script}
use Rattle.rh_replay.specs.History.{HistoryState, RecorderState, empty_history}
use Rattle.rh_replay.specs.Spelling.{spelling}
use Rattle.rh_trace.specs.declared.both.Pair.{Pair}
use Rattle.rh_trace.specs.declared.summary.Summary.{Summary}
use Rattle.rh_trace.specs.declared.way_fault.Unprepared.{Unprepared}
use Rattle.rh_trace.specs.declared.way_fault.WayFault.{WayFault}
use Rattle.rh_trace.specs.Answers.{Answered}
use Rattle.rh_trace.specs.Either.{by_either}
use Rattle.rh_trace.specs.Lines.{Seen}
use Rattle.rh_trace.specs.Fixed.{EngineSteps, IsFixedRefusal, IsFixedRun}
use Rattle.rh_trace.specs.Ways.{Ends, IsPlainlyTold}
use Rattle.rh_choices.specs.declared.telling.Telling.{Telling}
use Rattle.rh_trace_views.specs.Cycles.{cycle_lines, entries_of, reading_after}
use Rattle.rh_trace_views.specs.History.{call_of, with_calls}
use Rattle.rh_trace_views.specs.Run.{Written}
use Rattle.rh_trace_views.specs.Views.{total_text, view_text}

-- Lines.

-- what is told of a line
abbrev pub told_line : {S : Type 0} → Telling → Seen S → List ℕ
told_line telling one =
    view_text telling (record { line = one.line; request = one.request; answered = one.answered })

-- The history, which begins with the first line.

-- that of a heap of these sizes
abbrev pub begun_history : Header → Option HistoryState
begun_history header = Some (empty_history header.owners header.slots)

-- that of a recorder
abbrev pub history_in : Option RecorderState → Option HistoryState
history_in None = None
history_in (Some recorder) = Some recorder.history

-- it has room for so many calls more
abbrev pub HasRoomFor : Option RecorderState → ℕ → Type 0
HasRoomFor None n = Unit {0}
HasRoomFor (Some recorder) n = length recorder.history.calls + n ≤ recorder.limit

-- the history after a line
abbrev pub noted_with : Option HistoryState → Request → Answered → Option HistoryState
noted_with None request answered = None
noted_with (Some h) request answered = Some (with_calls h (call_of request answered))

-- its text
abbrev pub history_text : Option HistoryState → List ℕ
history_text None = []
history_text (Some h) = spelling h

-- Cycles, whose reader begins with the first line too.
module _ {S R : Type 0} (read : S → R → ℕ → EntryCounts → R × Option Cycle) where
  -- what the reader reads of a line
  abbrev pub read_of : R → Seen S → R × Option Cycle
  read_of reader one = read one.after reader one.line (entries_of one.answered)

  -- the reader after a line
  abbrev pub reader_after : Option R → Seen S → Option R
  reader_after None one = None
  reader_after (Some reader) one = Some (read_of reader one).0

  -- the line of the cycle that ended at a line
  abbrev pub cycle_shown : Option R → Seen S → List ℕ
  cycle_shown None one = []
  cycle_shown (Some reader) one = cycle_lines (told_cycles (read_of reader one).1)

-- All three: the lines are told to a writer, the history goes to a second, and the cycles to a third.

-- the writers
abbrev pub ViewsWriter : Type 0
ViewsWriter = Unit {0} ⊎ (Unit {0} ⊎ Unit {0})

-- what is known of the bytes that they took
abbrev pub views_contents : {O H C : Type 0} → (O → Option (List ℕ)) → (H → Option (List ℕ))
    → (C → Option (List ℕ)) → Pair O (Pair H C) → ViewsWriter → Option (List ℕ)
views_contents told noted cycles out =
    by_either (λ w. told out.first)
    (by_either (λ w. noted out.second.first) (λ w. cycles out.second.second))

-- before and now
abbrev pub written_of : (ViewsWriter → Option (List ℕ)) → (ViewsWriter → Option (List ℕ)) → Written
written_of old new = record {
  old = old (inl tt);
  new = new (inl tt);
  history_old = old (inr (inl tt));
  history_new = new (inr (inl tt));
  cycles_old = old (inr (inr tt));
  cycles_new = new (inr (inr tt));
}

-- what is kept: how lines are told, the history, and the reader of cycles
abbrev pub Keeping : Type 0 → Type 0
Keeping R = Telling × (Option HistoryState × Option R)

-- the names of the columns of cycles are written first
abbrev pub views_opening : ViewsWriter → List ℕ
views_opening = by_either (λ w. []) (by_either (λ w. []) (λ w. cycles_header))

-- the history and what the run adds up to are written at the end
abbrev pub views_closing : {R : Type 0} → Keeping R → Summary → ViewsWriter → List ℕ
views_closing l summary =
    by_either (λ w. total_text l.0 summary) (by_either (λ w. history_text l.1.0) (λ w. []))

-- before the first line
abbrev pub views_begun : {S R : Type 0} → (S → R) → Keeping R → Header → S → Keeping R
views_begun first l header s = (l.0, (begun_history header, Some (first s)))

module _ {S R : Type 0} (read : S → R → ℕ → EntryCounts → R × Option Cycle) where
  -- after a line
  abbrev pub views_next : Keeping R → Seen S → Keeping R
  views_next l one =
      (l.0, (noted_with l.1.0 one.request one.answered, reader_after read l.1.1 one))

  -- what is written of a line
  abbrev pub views_show : Keeping R → Seen S → ViewsWriter → List ℕ
  views_show l one =
      by_either (λ w. told_line l.0 one) (by_either (λ w. []) (λ w. cycle_shown read l.1.1 one))

-- Runs that are viewed, whatever their lines are played on.
module _ {S R : Type 0} (Steps : S → Request → S → Answered → Type 0)
    (total : S → Summary → Summary) (first : S → R)
    (read : S → R → ℕ → EntryCounts → R × Option Cycle) (fits : Script → S → Type 0) where
  -- how one of an input ends
  abbrev pub ViewsEnd : {F : Type 0} → (Script → Unprepared F → Type 0) → Telling → List ℕ
      → Result Summary (WayFault F) → (ViewsWriter → Option (List ℕ))
      → (ViewsWriter → Option (List ℕ)) → Type 0
  ViewsEnd refuses telling input result old new =
      Ends Steps total (views_next read) (views_show read) views_closing (inl tt) views_opening
      (views_begun first) fits refuses ViewsWriter (telling, (None, None)) input result old new

  -- what one told, where the bytes that were taken spell a trace, was answered as by a plain heap
  abbrev pub ViewsToldPlainly : Telling → Summary → Option (List ℕ) → Option (List ℕ)
      → (ViewsWriter → Option (List ℕ)) → (ViewsWriter → Option (List ℕ)) → Type 0
  ViewsToldPlainly telling summary from to old new =
      IsPlainlyTold Steps total (views_next read) (views_show read) views_closing (inl tt)
      views_opening (views_begun first) fits (telling, (None, None)) summary from to old new

-- Those on a heap of the first line's sizes, whose reader reads its numbers after each line.

-- the reader of a new engine
abbrev pub engine_first : EngineState → ReaderState
engine_first s = new_reader (stat_of s.heap)

-- it reads a line
abbrev pub engine_read : EngineState → ReaderState → ℕ → EntryCounts → ReaderState × Option Cycle
engine_read s reader line entries = read_step reader (reading_after s line entries)

abbrev pub ViewsEndFixed : {F : Type 0} → Telling → List ℕ → Result Summary (WayFault F)
    → (ViewsWriter → Option (List ℕ)) → (ViewsWriter → Option (List ℕ)) → Type 0
ViewsEndFixed telling input result old new =
    ViewsEnd EngineSteps (λ s counted. counted) engine_first engine_read IsFixedRun IsFixedRefusal
    telling input result old new

abbrev pub ViewsToldPlainlyFixed : Telling → Summary → Option (List ℕ) → Option (List ℕ)
    → (ViewsWriter → Option (List ℕ)) → (ViewsWriter → Option (List ℕ)) → Type 0
ViewsToldPlainlyFixed telling summary from to old new =
    ViewsToldPlainly EngineSteps (λ s counted. counted) engine_first engine_read IsFixedRun
    telling summary from to old new
