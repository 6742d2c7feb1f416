-- What is delivered are the answers of a plain heap.
use Rattle.std.proofs.Common.{◌≡◌, inl, inr, ℕ, Bool, true, false, List, [], Option, Some, None, Result, Ok, Err, sym, subst, arith}
use Rattle.std.specs.Prelude.{length, nat_lt, if◌then◌else◌}
use Rattle.std.proofs.lemmas.List.{append-nil}
use Rattle.rh_core.specs.runs.Programs.{CommandAnswers}
use Rattle.rh_syntax.specs.Reading.{trace_of}
use Rattle.rh_syntax.specs.Spelling.{Script}
use Rattle.rh_trace.specs.declared.summary.Summary.{Summary}
use Rattle.rh_trace.specs.declared.run_fault.RunFault.{RunFault}
use Rattle.rh_trace.specs.declared.run_fault.RunFault.TheVariants as faults
use Rattle.rh_trace.specs.Answers.{Answered}
use Rattle.rh_trace.specs.Run as runs
use Rattle.rh_trace.specs.Run.{run_of, run_of_trace}
use Rattle.rh_trace.proofs.PlainAnswers as plain_runs
use Rattle.rh_trace.proofs.PlainAnswers.{Begins, Dumps, StaysWellFormed, Steps}
use Rattle.rh_paced_trace.specs.Run as paced
use Rattle.rh_paced_trace.proofs.PlainAnswers as paced_runs
use Rattle.rh_paced_trace.proofs.PlainAnswers.{PlainLaws}
use Rattle.rheap_c_traces.specs.Told.{AnswersText, Delivers}

-- with status 0 the text is delivered
delivered : (text : List ℕ) (status : ℕ) (old new : List ℕ) (count : ℕ) → AnswersText text status old new count → status ≡ 0 → Delivers text old new count
delivered text status old new count (inl told) done = told.1
delivered text status old new count (inr told) done = absurd (omega (arith, told.0, done))

-- an input whose run succeeds isn't too long
within : (long : Bool) (due : Result (List ℕ × Summary) RunFault) (summary : Summary) (old new : Option (List ℕ))
    → runs.Ends (if long then Err faults.Long else due) (Ok summary) old new → runs.Ends due (Ok summary) old new
within true due summary old new ends = absurd (let is = ends.0 in cc)
within false due summary old new ends = ends

module _ (status : ℕ) (old new : List ℕ) (count : ℕ) (input text : List ℕ) (summary : Summary) (told : AnswersText text status old new count) (done : status ≡ 0) where
  pub delivers_plain : {A : Type 0} → StaysWellFormed A → Steps A → Begins → Dumps → runs.Ends (run_of input) (Ok summary) (Some []) (Some text)
      → (script : Script) × (answers : List Answered) × runs.IsPlainRun script answers (Some input) (Some []) × Delivers (runs.output_of answers) old new count
  delivers_plain keeps steps begins dumps ends =
      let due = within (nat_lt 16777216 (length input)) (run_of_trace (trace_of input)) summary (Some []) (Some text) ends in
      let run = plain_runs.plain keeps steps begins dumps input (Some input) (Some []) (Some []) (Some text) (sym (append-nil input)) (Ok summary) due in
      (run.0, run.1, run.2, subst (λ (ts : List ℕ). Delivers ts old new count) run.4 (delivered text status old new count told done))

  pub delivers_paced : {A : Type 0} → PlainLaws A → (mark : Option ℕ) → paced.Ends mark input (Ok summary) (Some []) (Some text)
      → (script : Script) × (answers : CommandAnswers) × (sums : Summary) × paced.IsPlainRun script answers (Some input) (Some []) × paced.AreSumsOf answers sums × Delivers (paced.output_of answers sums) old new count
  delivers_paced laws mark ends =
      let run = paced_runs.plain laws mark input (Some input) (Some []) (Some []) (Some text) (sym (append-nil input)) (Ok summary) ends in
      (run.0, run.1, summary, run.2, run.3, subst (λ (ts : List ℕ). Delivers ts old new count) run.4 (delivered text status old new count told done))
