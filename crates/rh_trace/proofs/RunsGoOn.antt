-- Where what plays the lines plays any, first lines that were played can be gone on with: what is written of them comes first of what is written of all.
use Rattle.std.proofs.Common.{◌≡◌, ℕ, ◌+◌, zero, suc, List, [], ◌∷◌, ◌++◌, take, Option, refl, ap, ◌∙◌, append_assoc}
use Rattle.std.specs.List.{AllByRecursion}
use Rattle.rh_text.specs.Output.{AppendsPrefix}
use Rattle.rh_syntax.specs.declared.request.Request.{Request}
use Rattle.rh_trace.specs.Answers.{Answered}
use Rattle.rh_trace.specs.Lines.{IsCutIn, Runs, Seen, kept_by, lines_text, seen_of, shown}
use Rattle.rh_trace.proofs.LinesInTurn.{prefix_at, prefix_more}

shown-append : {L E W : Type 0} (next : L → E → L) (show : L → E → W → List ℕ) (l : L) (seen more : List E) (w : W) → shown next show l seen w ++ shown next show (kept_by next l seen) more w ≡ shown next show l (seen ++ more) w
shown-append next show l [] more w = refl
shown-append next show l (one ∷ seen) more w =
    append_assoc (show l one w) (shown next show (next l one) seen w) (shown next show (kept_by next (next l one) seen) more w)
    ∙ ap (λ (t : List ℕ). show l one w ++ t) (shown-append next show (next l one) seen more w)

module _ {S : Type 0} (Steps : S → Request → S → Answered → Type 0) (Plays : Request → Type 0)
    (plays : (s : S) (request : Request) → Plays request → (t : S) × (answered : Answered) × Steps s request t answered) where
  runs-on : (line : ℕ) (s : S) (k : ℕ) (requests : List Request) (seen : List (Seen S)) → AllByRecursion Plays requests → Runs Steps line s (take k requests) seen → (more : List (Seen S)) × Runs Steps line s requests (seen ++ more)
  runs-on line s zero [] [] all runs = ([], tt)
  runs-on line s zero (r ∷ requests) [] all runs =
      let step = plays s r all.0 in
      let later = runs-on (line + 1) step.0 zero requests [] all.1 tt in
      (seen_of line r step.1 step.0 ∷ later.0, (refl, refl, step.2, later.1))
  runs-on line s zero requests (one ∷ seen) all runs = absurd runs
  runs-on line s (suc k) [] [] all runs = ([], tt)
  runs-on line s (suc k) [] (one ∷ seen) all runs = absurd runs
  runs-on line s (suc k) (r ∷ requests) [] all runs = absurd runs
  runs-on line s (suc k) (r ∷ requests) (one ∷ seen) all runs =
      let later = runs-on (line + 1) one.after k requests seen all.1 runs.3 in
      (later.0, (runs.0, runs.1, runs.2, later.1))

  -- a prefix of the text of the first lines is one of the text of all
  pub cut_of_all : {L W : Type 0} (next : L → Seen S → L) (show : L → Seen S → W → List ℕ) (opening : W → List ℕ)
      (l : L) (s : S) (requests : List Request) (old new : W → Option (List ℕ)) → AllByRecursion Plays requests → IsCutIn next show opening Steps l s requests old new
      → (seen : List (Seen S)) × Runs Steps 2 s requests seen × ((w : W) → AppendsPrefix (old w) (new w) (lines_text next show opening l seen w))
  cut_of_all next show opening l s requests old new all cut =
      let seen = cut.1 in
      let on = runs-on 2 s cut.0 requests seen all cut.2 in (
        seen ++ on.0,
        on.1,
        λ w. prefix_at (old w) (new w) ((opening w ++ shown next show l seen w) ++ shown next show (kept_by next l seen) on.0 w) (opening w ++ shown next show l (seen ++ on.0) w)
            (append_assoc (opening w) (shown next show l seen w) (shown next show (kept_by next l seen) on.0 w) ∙ ap (λ (t : List ℕ). opening w ++ t) (shown-append next show l seen on.0 w))
            (prefix_more (old w) (new w) (opening w ++ shown next show l seen w) (shown next show (kept_by next l seen) on.0 w) (cut.3 w)),
      )
