-- Lines that an engine plays, and whose answers are written.
use Rattle.std.proofs.Common.{◌≡◌, ℕ, ◌+◌, ◌<◌, List, [], ◌∷◌, ◌++◌, length, Option, Result, Ok, Err, refl, ap, subst, ◌∙◌, inl, inr, append_assoc, arith}
use Rattle.std.specs.Prelude.{IfOk}
use Rattle.std.specs.List.{flat_map, AllByRecursion}
use Rattle.std.specs.Io.KnownBytes.{Appends}
use Rattle.std.proofs.lemmas.List.{length-append}
use Rattle.rh_text.specs.Output.{AppendsLess, AppendsPrefix}
use Rattle.rh_syntax.specs.declared.request.Request.{Request}
use Rattle.rh_engine.specs.Engine.{EngineState}
use Rattle.rh_trace.specs.declared.stop.Stop.{Stop}
use Rattle.rh_trace.specs.declared.stop.Stop.TheVariants as stops
use Rattle.rh_trace.specs.declared.summary.Summary.{Summary}
use Rattle.rh_trace.specs.Answers.{Answered, answered_text, total_line}
use Rattle.rh_trace.specs.Lines.{IsCutIn, LinesEnd, Runs, Seen, answers_in, shown, whole_text}
use Rattle.rh_trace.specs.Run.{answers_to, output_of, request_step, summary_of, Writes}
use Rattle.rh_trace.proofs.LinesInTurn.{prefix_at}
use Rattle.rh_trace.proofs.RunsGoOn.{cut_of_all}

-- the steps of an engine
abbrev pub Steps : EngineState → Request → EngineState → Answered → Type 0
Steps s request t answered = (t ≡ (request_step s request).0) × (answered ≡ (request_step s request).1)

-- an engine plays every request
pub all_played : (requests : List Request) → AllByRecursion (λ request. Unit {0}) requests
all_played [] = tt
all_played (request ∷ others) = (tt, all_played others)

pub engine_plays : (e : EngineState) (request : Request) → Unit {0} → (t : EngineState) × (answered : Answered) × Steps e request t answered
engine_plays e request any = ((request_step e request).0, (request_step e request).1, (refl, refl))

-- what its lines are answered
pub answers_of_runs : (line : ℕ) (e : EngineState) (requests : List Request) (seen : List (Seen EngineState)) → Runs Steps line e requests seen → answers_in seen ≡ answers_to e requests
answers_of_runs line e [] [] runs = refl
answers_of_runs line e [] (one ∷ seen) runs = absurd runs
answers_of_runs line e (request ∷ others) [] runs = absurd runs
answers_of_runs line e (request ∷ others) (one ∷ seen) runs =
    let step = request_step e request in
    ap (λ (answered : Answered). answered ∷ answers_in seen) runs.2.1
    ∙ ap (λ (answers : List Answered). step.1 ∷ answers) (answers_of_runs (line + 1) one.after others seen runs.3 ∙ ap (λ (s : EngineState). answers_to s others) runs.2.0)

-- what is kept of them, and written
abbrev next : Unit {0} → Seen EngineState → Unit {0}
next s one = s

abbrev show : Unit {0} → Seen EngineState → Unit {0} → List ℕ
show s one w = answered_text one.answered

abbrev closing : Unit {0} → Summary → Unit {0} → List ℕ
closing s summary w = total_line summary

abbrev opening : Unit {0} → List ℕ
opening w = []

abbrev total : EngineState → Summary → Summary
total s counted = counted

shown_is : (seen : List (Seen EngineState)) → shown next show tt seen tt ≡ flat_map answered_text (answers_in seen)
shown_is [] = refl
shown_is (one ∷ seen) = ap (λ (t : List ℕ). answered_text one.answered ++ t) (shown_is seen)

-- the total line isn't empty
total_filled : (text : List ℕ) (summary : Summary) → 0 < length (text ++ total_line summary)
total_filled text summary = omega (arith, length-append text (total_line summary))

-- how they end
abbrev pub Ended : EngineState → List Request → Result Summary Stop → (Unit {0} → Option (List ℕ)) → (Unit {0} → Option (List ℕ)) → Type 0
Ended e requests result old new = LinesEnd Steps total next show closing tt opening ⊥ tt e requests result old new

module _ (e : EngineState) (requests : List Request) (old new : Unit {0} → Option (List ℕ)) where
  abbrev all : List Answered
  all = answers_to e requests

  -- a prefix of the answers to the first lines is one of all answers
  cut_before : IsCutIn next show opening Steps tt e requests old new → AppendsPrefix (old tt) (new tt) (flat_map answered_text all)
  cut_before cut =
      let some = cut_of_all Steps (λ request. Unit {0}) engine_plays next show opening tt e requests old new (all_played requests) cut in
      prefix_at (old tt) (new tt) (shown next show tt some.0 tt) (flat_map answered_text all) (shown_is some.0 ∙ ap (flat_map answered_text) (answers_of_runs 2 e requests some.0 some.1)) (some.2 tt)

  -- a prefix of the answers, before the total line, isn't all
  less_than_all : AppendsPrefix (old tt) (new tt) (flat_map answered_text all) → AppendsLess (old tt) (new tt) (output_of all)
  less_than_all cut =
      let total = total_line (summary_of all) in
      (cut.0, cut.1 ++ total, ap (λ (t : List ℕ). t ++ total) cut.2 ∙ append_assoc cut.0 cut.1 total, total_filled cut.1 (summary_of all), cut.3)

  whole_is : (seen : List (Seen EngineState)) (summary : Summary) → Runs Steps 2 e requests seen → summary ≡ summary_of (answers_in seen) → whole_text next show closing opening tt seen summary tt ≡ output_of all
  whole_is seen summary runs sum =
      let answers = answers_of_runs 2 e requests seen runs in
      ap (λ (t : List ℕ). t ++ total_line summary) (shown_is seen) ∙ ap (λ (s : Summary). flat_map answered_text (answers_in seen) ++ total_line s) sum ∙ ap output_of answers

  summary_is : (summary : Summary) → Ended e requests (Ok summary) old new → summary ≡ summary_of all
  summary_is summary ends = ends.2 ∙ ap summary_of (answers_of_runs 2 e requests ends.0 ends.1)

  pub summary_told : (result : Result Summary Stop) → Ended e requests result old new → IfOk result (λ summary. summary ≡ summary_of all)
  summary_told (Ok summary) ends = summary_is summary ends
  summary_told (Err stop) ends = tt

  pub before_total : (result : Result Summary Stop) → result ≡ Err stops.OutOfMemory → Ended e requests result old new → AppendsPrefix (old tt) (new tt) (flat_map answered_text all)
  before_total result refused ends = cut_before (subst (λ (r : Result Summary Stop). Ended e requests r old new) refused ends).1

  pub written : (result : Result Summary Stop) → Ended e requests result old new → Writes (output_of all) result (old tt) (new tt)
  written (Ok summary) ends = subst (Appends (old tt) (new tt)) (whole_is ends.0 summary ends.1 ends.2) (ends.3 tt)
  written (Err stops.OutOfMemory) ends = less_than_all (cut_before ends.1)
  written (Err stops.Write) (inl cut) = less_than_all (cut_before cut)
  written (Err stops.Write) (inr cut) =
      elim cut.2.1 as (λ _. AppendsLess (old tt) (new tt) (output_of all)) [
        | inl none ↦ absurd (omega (arith, ap length none, total_filled [] (summary_of (answers_in cut.0))))
        | inr less ↦ subst (AppendsLess (old tt) (new tt)) (whole_is cut.0 (summary_of (answers_in cut.0)) cut.1 refl) less
      ]
