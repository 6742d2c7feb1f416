-- What a flush leaves of how a run by a way ended.
use Rattle.std.proofs.Common.{◌≡◌, ◌⊎◌, inl, inr, ℕ, List, [], Option, None, Result, Ok, Err, subst}
use Rattle.std.specs.Io.KnownBytes.{Keeps}
use Rattle.rh_text.specs.Output.{AppendsLess, AppendsPrefix}
use Rattle.rh_syntax.specs.declared.line.Header.{Header}
use Rattle.rh_syntax.specs.declared.request.Request.{Request}
use Rattle.rh_syntax.specs.Spelling.{Script}
use Rattle.rh_trace.specs.declared.stop.Stop.{Stop}
use Rattle.rh_trace.specs.declared.stop.Stop.TheVariants as stops
use Rattle.rh_trace.specs.declared.summary.Summary.{Summary}
use Rattle.rh_trace.specs.declared.way_fault.Unprepared.{Unprepared}
use Rattle.rh_trace.specs.declared.way_fault.WayFault.{WayFault}
use Rattle.rh_trace.specs.declared.way_fault.WayFault.TheVariants as ends
use Rattle.rh_trace.specs.Answers.{Answered, answered_text, total_line}
use Rattle.rh_trace.specs.Either.{by_either}
use Rattle.rh_trace.specs.Fixed.{AnswersEnd}
use Rattle.rh_trace.specs.Lines.{LinesEnd, Seen, kept_by, lines_text, summary_in, whole_text}
use Rattle.rh_trace.specs.Ways.{Ends, IsPlayedTrace, KeepsAll, TraceEnds}
use Rattle.rh_choices.specs.declared.telling.Telling.{Telling}
use Rattle.rh_cycles.specs.declared.cycle.Cycle.{Cycle}
use Rattle.rh_cycles.specs.declared.cycle.EntryCounts.{EntryCounts}
use Rattle.rh_replay.specs.History.{HistoryState}
use Rattle.rh_trace_views.specs.Listening.{ViewsEnd, ViewsWriter, views_begun, views_closing, views_next, views_opening, views_show}
use Rattle.rh_commands.proofs.Flushed.{Appends-kept, AppendsLess-kept, AppendsPrefix-kept, Keeps-kept}

module _ {W : Type 0} (old mid new : W → Option (List ℕ)) (flushed : KeepsAll mid new) where
  keeps : KeepsAll old mid → KeepsAll old new
  keeps k = λ w. Keeps-kept (old w) (mid w) (new w) (k w) (flushed w)

  prefixes : (text : W → List ℕ) → ((w : W) → AppendsPrefix (old w) (mid w) (text w)) → (w : W) → AppendsPrefix (old w) (new w) (text w)
  prefixes text p = λ w. AppendsPrefix-kept (old w) (mid w) (new w) (text w) (p w) (flushed w)

  cut_at : (w : W) (closing text : List ℕ) → (closing ≡ []) ⊎ AppendsLess (old w) (mid w) text → (closing ≡ []) ⊎ AppendsLess (old w) (new w) text
  cut_at w closing text (inl none) = inl none
  cut_at w closing text (inr less) = inr (AppendsLess-kept (old w) (mid w) (new w) text less (flushed w))

  module _ {S L F : Type 0} (Steps : S → Request → S → Answered → Type 0) (total : S → Summary → Summary) (next : L → Seen S → L) (show : L → Seen S → W → List ℕ)
      (closing : L → Summary → W → List ℕ) (lead : W) (opening : W → List ℕ) (begun : L → Header → S → L) (fits : Script → S → Type 0) (refuses : Script → Unprepared F → Type 0) (Needs : Type 0) where
    lines_flushed : (l : L) (s : S) (requests : List Request) (r : Result Summary Stop) → LinesEnd Steps total next show closing lead opening Needs l s requests r old mid
        → LinesEnd Steps total next show closing lead opening Needs l s requests r old new
    lines_flushed l s requests (Ok summary) e =
        (e.0, e.1, e.2, λ w. Appends-kept (old w) (mid w) (new w) (whole_text next show closing opening l e.0 summary w) (e.3 w) (flushed w))
    lines_flushed l s requests (Err stops.Write) (inl e) =
        inl (e.0, e.1, e.2, prefixes (lines_text next show opening l e.1) e.3)
    lines_flushed l s requests (Err stops.Write) (inr e) =
        let sum = summary_in total s e.0 in
        let text = whole_text next show closing opening l e.0 sum in
        inr (e.0, e.1, (prefixes text e.2.0, cut_at lead (closing (kept_by next l e.0) sum lead) (text lead) e.2.1))
    lines_flushed l s requests (Err stops.OutOfMemory) e =
        (e.0, (e.1.0, e.1.1, e.1.2, prefixes (lines_text next show opening l e.1.1) e.1.3))

    played_flushed : (l : L) (script : Script) (r : Result Summary Stop) → IsPlayedTrace Steps total next show closing lead opening begun fits Needs l script r old mid
        → IsPlayedTrace Steps total next show closing lead opening begun fits Needs l script r old new
    played_flushed l script r e = (e.0, e.1, lines_flushed (begun l script.header e.0) e.0 script.requests r e.2)

    trace_flushed : (l : L) (script : Script) (r : Result Summary (WayFault F)) → TraceEnds Steps total next show closing lead opening begun fits refuses Needs l script r old mid
        → TraceEnds Steps total next show closing lead opening begun fits refuses Needs l script r old new
    trace_flushed l script (Ok summary) e = played_flushed l script (Ok summary) e
    trace_flushed l script (Err ends.Write) e = played_flushed l script (Err stops.Write) e
    trace_flushed l script (Err ends.OutOfMemory) (inl e) = inl (keeps e)
    trace_flushed l script (Err ends.OutOfMemory) (inr e) = inr (played_flushed l script (Err stops.OutOfMemory) e)
    trace_flushed l script (Err (ends.Trace fault)) e = (e.0, keeps e.1)
    trace_flushed l script (Err (ends.New fault)) e = (e.0, keeps e.1)
    trace_flushed l script (Err (ends.Way fault)) e = (e.0, keeps e.1)
    trace_flushed l script (Err ends.Read) e = absurd e
    trace_flushed l script (Err ends.Long) e = absurd e

    -- a run that ended in some way has ended so after flushes too
    pub ends_flushed : (l : L) (input : List ℕ) (r : Result Summary (WayFault F)) → Ends Steps total next show closing lead opening begun fits refuses Needs l input r old mid
        → Ends Steps total next show closing lead opening begun fits refuses Needs l input r old new
    ends_flushed l input r (inl e) = inl (e.0, e.1, e.2, keeps e.3)
    ends_flushed l input r (inr e) = inr (e.0, e.1, trace_flushed l e.0 r e.2)

-- so has one whose answers were written
pub answers_flushed : {S F : Type 0} (Steps : S → Request → S → Answered → Type 0) (total : S → Summary → Summary) (fits : Script → S → Type 0) (refuses : Script → Unprepared F → Type 0) (input : List ℕ) (r : Result Summary (WayFault F)) (old mid new : Option (List ℕ))
    → AnswersEnd Steps total fits refuses input r old mid → Keeps mid new → AnswersEnd Steps total fits refuses input r old new
answers_flushed {S = S} Steps total fits refuses input r old mid new e kept =
    ends_flushed {W = Unit {0}} (λ w. old) (λ w. mid) (λ w. new) (λ w. kept) Steps total (λ (l : Unit {0}) (one : Seen S). l) (λ (l : Unit {0}) (one : Seen S) w. answered_text one.answered)
    (λ (l : Unit {0}) summary w. total_line summary) tt (λ w. []) (λ (l : Unit {0}) (header : Header) (s : S). l) fits refuses ⊥ tt input r e

-- what three writers took is kept by a flush of each
pub each_kept : (a b c x y z : Option (List ℕ)) → Keeps a x → Keeps b y → Keeps c z
    → KeepsAll {W = Unit {0} ⊎ (Unit {0} ⊎ Unit {0})} (by_either (λ w. a) (by_either (λ w. b) (λ w. c))) (by_either (λ w. x) (by_either (λ w. y) (λ w. z)))
each_kept a b c x y z ka kb kc (inl w) = ka
each_kept a b c x y z ka kb kc (inr (inl w)) = kb
each_kept a b c x y z ka kb kc (inr (inr w)) = kc

-- what holds of a listener that keeps this holds of one that keeps what is the same
same_start : {T H R : Type 0} (P : T × (Option H × Option R) → Type 0) (telling told : T) (history : Option H) (reader : Option R) → told ≡ telling → history ≡ None → reader ≡ None → P (told, (history, reader)) → P (telling, (None, None))
same_start {T = T} {H = H} {R = R} P telling told history reader is none new p =
    subst (λ (t : T). P (t, (None, None))) is (subst (λ (h : Option H). P (told, (h, None))) none (subst (λ (r : Option R). P (told, (history, r))) new p))

-- a viewed run that ended in some way, by listeners that had not begun, has ended so after flushes too
pub views_flushed : {S R F : Type 0} (Steps : S → Request → S → Answered → Type 0) (total : S → Summary → Summary) (first : S → R) (read : S → R → ℕ → EntryCounts → R × Option Cycle)
    (fits : Script → S → Type 0) (refuses : Script → Unprepared F → Type 0) (telling told : Telling) (history : Option HistoryState) (reader : Option R) → told ≡ telling → history ≡ None → reader ≡ None
    → (old mid new : ViewsWriter → Option (List ℕ)) → KeepsAll mid new → (input : List ℕ) (r : Result Summary (WayFault F))
    → Ends Steps total (views_next read) (views_show read) views_closing (inl tt) views_opening (views_begun first) fits refuses ViewsWriter (told, (history, reader)) input r old mid
    → ViewsEnd Steps total first read fits refuses telling input r old new
views_flushed Steps total first read fits refuses telling told history reader is none unread old mid new kept input r e =
    same_start (λ l. Ends Steps total (views_next read) (views_show read) views_closing (inl tt) views_opening (views_begun first) fits refuses ViewsWriter l input r old new) telling told history reader is none unread
    (ends_flushed old mid new kept Steps total (views_next read) (views_show read) views_closing (inl tt) views_opening (views_begun first) fits refuses ViewsWriter (told, (history, reader)) input r e)
