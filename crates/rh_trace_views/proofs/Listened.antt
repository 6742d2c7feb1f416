-- What the listeners of views write of lines, by what is seen of these.
use Rattle.std.proofs.Common.{◌≡◌, ℕ, ◌+◌, List, [], ◌∷◌, ◌++◌, Option, Some, Result, Ok, Err, inl, inr, refl, sym, ap, subst, ◌∙◌, length, arith}
use Rattle.std.specs.List.{AllByRecursion}
use Rattle.std.specs.Io.KnownBytes.{Appends}
use Rattle.std.proofs.lemmas.List.{append-nil}
use Rattle.std.proofs.lemmas.List.Concat.{flat_map-append}
use Rattle.rh_text.specs.Output.{AppendsLess, AppendsPrefix}
use Rattle.rh_cycles.specs.declared.cycle.Cycle.{Cycle}
use Rattle.rh_cycles.specs.declared.cycle.EntryCounts.{EntryCounts}
use Rattle.rh_cycles.specs.Cycles.{told_cycles}
use Rattle.rh_cycles.specs.Line.{cycle_line, cycles_header}
use Rattle.rh_syntax.specs.declared.request.Request.{Request}
use Rattle.rh_syntax.specs.Spelling.{Script}
use Rattle.rh_replay.specs.History.{HistoryState, empty_history}
use Rattle.rh_replay.specs.Spelling.{spelling}
use Rattle.rh_trace.specs.declared.stop.Stop.{Stop}
use Rattle.rh_trace.specs.declared.stop.Stop.TheVariants as stops
use Rattle.rh_trace.specs.declared.summary.Summary.{Summary}
use Rattle.rh_trace.specs.Answers.{Answered}
use Rattle.rh_trace.specs.Lines.{IsCutIn, LinesEnd, Runs, Seen, answers_in, kept_by, shown, summary_in}
use Rattle.rh_trace.proofs.RunsGoOn.{cut_of_all}
use Rattle.rh_choices.specs.declared.telling.Telling.{Telling}
use Rattle.rh_trace_views.specs.Cycles.{cycle_lines, cycles_text}
use Rattle.rh_trace_views.specs.History.{call_of, calls_of, with_calls}
use Rattle.rh_trace_views.specs.Listening.{Keeping, ViewsWriter, begun_history, history_text, noted_with, read_of, reader_after, views_closing, views_next, views_opening, views_show, written_of}
use Rattle.rh_trace_views.specs.Run.{IsCut, IsStopped, IsTold, Written, history_with, told_of}
use Rattle.rh_trace_views.specs.Views.{numbered, total_text, view_text, views_text}
use Rattle.rh_trace_views.proofs.LegalHistory.{calls_then, no_calls_more}
use Rattle.rh_trace_views.proofs.Prefixes.{keeps_of, kept_prefix, less_than_all, total_filled}

-- ---- how lines end that may have been answered in several ways, and in which cycles ended

module _ {G : Type 0} (answers : G → List Answered) (sum : G → Summary) (cycles : G → List Cycle) (telling : Telling) (script : Script) (w : Written) where
  abbrev pub AreTold : Result Summary Stop → Type 0
  AreTold (Ok summary) = (g : G) × (summary ≡ sum g) × IsTold telling script (answers g) summary (cycles g) w
  AreTold (Err stops.Write) = (g : G) × IsCut telling script (answers g) (sum g) (cycles g) w
  AreTold (Err stops.OutOfMemory) = (g : G) × IsStopped telling script (answers g) (cycles g) w

-- the same in other words
module _ {G H : Type 0} (answers : G → List Answered) (sum : G → Summary) (cycles : G → List Cycle) (others : H → List Answered) (sums : H → Summary) (ended : H → List Cycle)
    (same : (g : G) → (h : H) × (answers g ≡ others h) × (sum g ≡ sums h) × (cycles g ≡ ended h)) (telling : Telling) (script : Script) (w : Written) where
  pub told_by : (result : Result Summary Stop) → AreTold answers sum cycles telling script w result → AreTold others sums ended telling script w result
  told_by (Ok summary) (g, is, told) =
      let words = same g in
      let answered = subst (λ (x : List Answered). IsTold telling script x summary (cycles g) w) words.1 told in
      (words.0, is ∙ words.2, subst (λ (x : List Cycle). IsTold telling script (others words.0) summary x w) words.3 answered)
  told_by (Err stops.Write) (g, cut) =
      let words = same g in
      let answered = subst (λ (x : List Answered). IsCut telling script x (sum g) (cycles g) w) words.1 cut in
      let summed = subst (λ (x : Summary). IsCut telling script (others words.0) x (cycles g) w) words.2 answered in
      (words.0, subst (λ (x : List Cycle). IsCut telling script (others words.0) (sums words.0) x w) words.3 summed)
  told_by (Err stops.OutOfMemory) (g, stopped) =
      let words = same g in
      let answered = subst (λ (x : List Answered). IsStopped telling script x (cycles g) w) words.1 stopped in
      (words.0, subst (λ (x : List Cycle). IsStopped telling script (others words.0) x w) words.3 answered)

-- ---- what is written

-- the lines of a trace were played
abbrev pub Played : {S : Type 0} → (S → Request → S → Answered → Type 0) → Script → S → Type 0
Played {S} Steps script s = (seen : List (Seen S)) × Runs Steps 2 s script.requests seen

module _ {S R : Type 0} (read : S → R → ℕ → EntryCounts → R × Option Cycle) where
  -- the cycles that end at lines, which are read from this reader on
  abbrev pub cycles_in : R → List (Seen S) → List Cycle
  cycles_in q [] = []
  cycles_in q (one ∷ seen) = told_cycles (read_of read q one).1 ++ cycles_in (read_of read q one).0 seen

  -- it is told as it was, all along
  telling-stays : (l : Keeping R) (seen : List (Seen S)) → (kept_by (views_next read) l seen).0 ≡ l.0
  telling-stays l [] = refl
  telling-stays l (one ∷ seen) = telling-stays (views_next read l one) seen

  -- nothing of the history is written before the end
  nothing-shown : (l : Keeping R) (seen : List (Seen S)) → shown (views_next read) (views_show read) l seen (inr (inl tt)) ≡ []
  nothing-shown l [] = refl
  nothing-shown l (one ∷ seen) = nothing-shown (views_next read l one) seen

  -- the lines of cycles
  cycles-shown : (telling : Telling) (h : Option HistoryState) (q : R) (seen : List (Seen S)) → shown (views_next read) (views_show read) (telling, (h, Some q)) seen (inr (inr tt)) ≡ cycle_lines (cycles_in q seen)
  cycles-shown telling h q [] = refl
  cycles-shown telling h q (one ∷ seen) =
      let reader = (read_of read q one).0 in
      let ended = told_cycles (read_of read q one).1 in
      ap (λ (t : List ℕ). cycle_lines ended ++ t) (cycles-shown telling (noted_with h one.request one.answered) reader seen) ∙ sym (flat_map-append cycle_line ended (cycles_in reader seen))

  module _ (Steps : S → Request → S → Answered → Type 0) where
    -- what is told of lines
    told-shown : (l : Keeping R) (line : ℕ) (s : S) (requests : List Request) (seen : List (Seen S)) → Runs Steps line s requests seen
        → shown (views_next read) (views_show read) l seen (inl tt) ≡ views_text l.0 (numbered line requests (answers_in seen))
    told-shown l line s [] [] runs = refl
    told-shown l line s [] (one ∷ seen) runs = absurd runs
    told-shown l line s (r ∷ others) [] runs = absurd runs
    told-shown l line s (r ∷ others) (one ∷ seen) runs =
        let later = shown (views_next read) (views_show read) (views_next read l one) seen (inl tt) in
        let view = λ (n : ℕ) (x : Request). view_text l.0 (record { line = n; request = x; answered = one.answered }) in
        ap (λ (n : ℕ). view n one.request ++ later) runs.0 ∙ ap (λ (x : Request). view line x ++ later) runs.1
        ∙ ap (λ (t : List ℕ). view line r ++ t) (told-shown (views_next read l one) (line + 1) one.after others seen runs.3)

    -- the history of lines
    history-kept : (telling : Telling) (h : HistoryState) (q : Option R) (line : ℕ) (s : S) (requests : List Request) (seen : List (Seen S)) → Runs Steps line s requests seen
        → (kept_by (views_next read) (telling, (Some h, q)) seen).1.0 ≡ Some (with_calls h (calls_of (numbered line requests (answers_in seen))))
    history-kept telling h q line s [] [] runs = ap Some (no_calls_more h)
    history-kept telling h q line s [] (one ∷ seen) runs = absurd runs
    history-kept telling h q line s (r ∷ others) [] runs = absurd runs
    history-kept telling h q line s (r ∷ others) (one ∷ seen) runs =
        let later = calls_of (numbered (line + 1) others (answers_in seen)) in
        history-kept telling (with_calls h (call_of one.request one.answered)) (reader_after read q one) (line + 1) one.after others seen runs.3
        ∙ ap Some (calls_then h (call_of one.request one.answered) later ∙ ap (λ (x : Request). with_calls h (call_of x one.answered ++ later)) runs.1)

    module _ (telling : Telling) (script : Script) (s : S) (q : R) where
      -- what is kept before the first line
      abbrev pub begun : Keeping R
      begun = (telling, (begun_history script.header, Some q))

      -- the texts of all lines, with what is written at the end
      module _ (seen : List (Seen S)) (runs : Runs Steps 2 s script.requests seen) where
        pub whole-told : (summary : Summary) → shown (views_next read) (views_show read) begun seen (inl tt) ++ total_text (kept_by (views_next read) begun seen).0 summary ≡ told_of telling script.requests (answers_in seen) summary
        whole-told summary =
            ap (λ (t : List ℕ). t ++ total_text (kept_by (views_next read) begun seen).0 summary) (told-shown begun 2 s script.requests seen runs)
            ∙ ap (λ (x : Telling). views_text telling (numbered 2 script.requests (answers_in seen)) ++ total_text x summary) (telling-stays begun seen)

        pub whole-noted : shown (views_next read) (views_show read) begun seen (inr (inl tt)) ++ history_text (kept_by (views_next read) begun seen).1.0 ≡ spelling (history_with script (answers_in seen))
        whole-noted =
            ap (λ (t : List ℕ). t ++ history_text (kept_by (views_next read) begun seen).1.0) (nothing-shown begun seen)
            ∙ ap history_text (history-kept telling (empty_history script.header.owners script.header.slots) (Some q) 2 s script.requests seen runs)

        cycles-are : cycles_header ++ shown (views_next read) (views_show read) begun seen (inr (inr tt)) ≡ cycles_text (cycles_in q seen)
        cycles-are = ap (λ (t : List ℕ). cycles_header ++ t) (cycles-shown telling (begun_history script.header) q seen)

        whole-cycles : (cycles_header ++ shown (views_next read) (views_show read) begun seen (inr (inr tt))) ++ [] ≡ cycles_text (cycles_in q seen)
        whole-cycles = append-nil (cycles_header ++ shown (views_next read) (views_show read) begun seen (inr (inr tt))) ∙ cycles-are

      -- how the lines end
      module _ (total : S → Summary → Summary) (old new : ViewsWriter → Option (List ℕ)) (Plays : Request → Type 0)
          (plays : (s : S) (request : Request) → Plays request → (t : S) × (answered : Answered) × Steps s request t answered) (all : AllByRecursion Plays script.requests) where
        stopped : IsCutIn (views_next read) (views_show read) views_opening Steps begun s script.requests old new
            → (played : Played Steps script s) × IsStopped telling script (answers_in played.0) (cycles_in q played.0) (written_of old new)
        stopped cut =
            let some = cut_of_all Steps Plays plays (views_next read) (views_show read) views_opening begun s script.requests old new all cut in
            let seen = some.0 in (
              (seen, some.1),
              (
                subst (AppendsPrefix (old (inl tt)) (new (inl tt))) (told-shown begun 2 s script.requests seen some.1) (some.2 (inl tt)),
                keeps_of (old (inr (inl tt))) (new (inr (inl tt))) (shown (views_next read) (views_show read) begun seen (inr (inl tt))) (nothing-shown begun seen) (some.2 (inr (inl tt))),
                subst (AppendsPrefix (old (inr (inr tt))) (new (inr (inr tt)))) (cycles-are seen some.1) (some.2 (inr (inr tt))),
              ),
            )

        -- nor was the whole text written, then
        cut_early : (played : Played Steps script s) → IsStopped telling script (answers_in played.0) (cycles_in q played.0) (written_of old new) → IsCut telling script (answers_in played.0) (summary_in total s played.0) (cycles_in q played.0) (written_of old new)
        cut_early played early = (
          less_than_all telling (summary_in total s played.0) (views_text telling (numbered 2 script.requests (answers_in played.0))) (old (inl tt)) (new (inl tt)) early.0,
          kept_prefix (old (inr (inl tt))) (new (inr (inl tt))) (spelling (history_with script (answers_in played.0))) early.1,
          early.2,
        )

        -- there is a text at the end
        not_empty : (t : Telling) (summary : Summary) → total_text t summary ≡ [] → ⊥
        not_empty t summary none = omega (arith, total_filled t summary, ap length none)

        pub lines_told : (Needs : Type 0) (result : Result Summary Stop) → LinesEnd Steps total (views_next read) (views_show read) views_closing (inl tt) views_opening Needs begun s script.requests result old new
            → AreTold {G = Played Steps script s} (λ played. answers_in played.0) (λ played. summary_in total s played.0) (λ played. cycles_in q played.0) telling script (written_of old new) result
        lines_told Needs (Ok summary) (seen, runs, is, texts) = (
          (seen, runs),
          is,
          (
            subst (Appends (old (inl tt)) (new (inl tt))) (whole-told seen runs summary) (texts (inl tt)),
            subst (Appends (old (inr (inl tt))) (new (inr (inl tt)))) (whole-noted seen runs) (texts (inr (inl tt))),
            subst (Appends (old (inr (inr tt))) (new (inr (inr tt)))) (whole-cycles seen runs) (texts (inr (inr tt))),
          ),
        )
        lines_told Needs (Err stops.Write) (inl cut) =
            let early = stopped cut in (early.0, cut_early early.0 early.1)
        lines_told Needs (Err stops.Write) (inr cut) =
            let seen = cut.0 in
            let runs = cut.1 in
            let texts = cut.2.0 in
            let summary = summary_in total s seen in
            let less : AppendsLess (old (inl tt)) (new (inl tt)) (shown (views_next read) (views_show read) begun seen (inl tt) ++ total_text (kept_by (views_next read) begun seen).0 summary) =
            elim cut.2.1 [
              | inl none ↦ absurd (not_empty (kept_by (views_next read) begun seen).0 summary none)
              | inr less ↦ less
            ]
            in (
              (seen, runs),
              (
                subst (AppendsLess (old (inl tt)) (new (inl tt))) (whole-told seen runs summary) less,
                subst (AppendsPrefix (old (inr (inl tt))) (new (inr (inl tt)))) (whole-noted seen runs) (texts (inr (inl tt))),
                subst (AppendsPrefix (old (inr (inr tt))) (new (inr (inr tt)))) (whole-cycles seen runs) (texts (inr (inr tt))),
              ),
            )
        lines_told Needs (Err stops.OutOfMemory) ends = stopped ends.1
