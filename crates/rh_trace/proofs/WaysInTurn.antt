-- How a run by a way ends, from how reading and how the run of a trace end.
use Rattle.std.proofs.Common.{◌≡◌, ◌⊎◌, inl, inr, ℕ, List, take, Option, Some, None, Result, Ok, Err, refl, sym, ap, subst, ◌∙◌}
use Rattle.std.specs.Prelude.{IfOk, IfSome, IsErrOf}
use Rattle.std.specs.Io.KnownBytes.{Consumes}
use Rattle.rh_model.specs.Plain.{empty_plain}
use Rattle.rh_text.specs.lemmas.Appends.{Keeps-same}
use Rattle.rh_syntax.specs.declared.line.Header.{Header}
use Rattle.rh_syntax.specs.declared.request.Request.{Request}
use Rattle.rh_syntax.specs.lemmas.ReadIsSpelled.{trace_of-means}
use Rattle.rh_syntax.specs.Spelling.{Script}
use Rattle.rh_trace.specs.declared.run_fault.RunFault.{RunFault}
use Rattle.rh_trace.specs.declared.run_fault.RunFault.TheVariants as faults
use Rattle.rh_trace.specs.declared.stop.Stop.{Stop}
use Rattle.rh_trace.specs.declared.summary.Summary.{Summary}
use Rattle.rh_trace.specs.declared.way_fault.Unprepared.{Unprepared}
use Rattle.rh_trace.specs.declared.way_fault.Unprepared.TheVariants as reasons
use Rattle.rh_trace.specs.declared.way_fault.WayFault.{WayFault}
use Rattle.rh_trace.specs.declared.way_fault.WayFault.TheVariants as ends
use Rattle.rh_trace.specs.Answers.{Answered}
use Rattle.rh_trace.specs.Lines.{LinesEnd, Runs, Seen, answers_in}
use Rattle.rh_trace.specs.Run.{AreTransparent}
use Rattle.rh_trace.specs.Ways.{Ends, IsPlainlyCut, IsPlainlyPlayed, IsPlainlyStopped, IsPlainlyTold, IsPlayedTrace, IsReadAs, IsTrace, IsUnread, KeepsAll, TraceEnds, of_run_fault, of_unprepared}

-- nothing was written
pub keeps_all : {W : Type 0} (old : W → Option (List ℕ)) → KeepsAll old old
keeps_all old = λ w. Keeps-same (old w)

-- no fault of reading is one of writing
unread_write : {F : Type 0} (fault : RunFault) (input : List ℕ) → IsUnread input fault → of_run_fault {F = F} fault ≡ ends.Write → ⊥
unread_write faults.Read input is e = absurd cc
unread_write faults.Long input is e = absurd cc
unread_write (faults.Trace fault) input is e = absurd cc
unread_write (faults.New fault) input is e = is
unread_write faults.Write input is e = is
unread_write faults.OutOfMemory input is e = absurd cc

-- Read is answered where a read failed
read_is : {F : Type 0} (fault : RunFault) → of_run_fault {F = F} fault ≡ ends.Read → fault ≡ faults.Read
read_is faults.Read e = refl
read_is faults.Long e = absurd cc
read_is (faults.Trace fault) e = absurd cc
read_is (faults.New fault) e = absurd cc
read_is faults.Write e = absurd cc
read_is faults.OutOfMemory e = absurd cc

errs : {X E : Type 0} (a b : E) → ◌≡◌ {A = Result X E} (Err a) (Err b) → a ≡ b
errs a b e = cc

-- two faults that a result is are one
one_fault : {F : Type 0} (result : Result Summary (WayFault F)) (a b : WayFault F) → result ≡ Err a → result ≡ Err b → a ≡ b
one_fault result a b p q = cc

pub failed_read : {F : Type 0} (result : Result Summary (WayFault F)) (fault : RunFault) → result ≡ Err (of_run_fault fault) → IsErrOf result ends.Read → fault ≡ faults.Read
failed_read result fault is failed = read_is fault (one_fault result (of_run_fault fault) ends.Read is failed)

pub was_read : {F : Type 0} (read : Result Script RunFault) (fault : RunFault) (result : Result Summary (WayFault F)) → read ≡ Err fault → result ≡ Err (of_run_fault fault) → IsErrOf read faults.Read → IsErrOf result ends.Read
was_read {F} read fault result given is failed = is ∙ ap (λ (f : RunFault). Err (of_run_fault {F = F} f)) (errs fault faults.Read (sym given ∙ failed))

pub never_wrote : {F : Type 0} (result : Result Summary (WayFault F)) (fault : RunFault) (input : List ℕ) → IsUnread input fault → result ≡ Err (of_run_fault fault) → IsErrOf result ends.Write → ⊥
never_wrote result fault input unread is failed = unread_write fault input unread (one_fault result (of_run_fault fault) ends.Write is failed)

module _ {S L W F : Type 0} (Steps : S → Request → S → Answered → Type 0) (total : S → Summary → Summary) (next : L → Seen S → L) (show : L → Seen S → W → List ℕ) (closing : L → Summary → W → List ℕ) (lead : W) (opening : W → List ℕ)
    (begun : L → Header → S → L) (fits : Script → S → Type 0) (refuses : Script → Unprepared F → Type 0) (Needs : Type 0) (l : L) where
  abbrev Ended : List ℕ → Result Summary (WayFault F) → (W → Option (List ℕ)) → (W → Option (List ℕ)) → Type 0
  Ended input result old new = Ends Steps total next show closing lead opening begun fits refuses Needs l input result old new

  abbrev Traced : Script → Result Summary (WayFault F) → (W → Option (List ℕ)) → (W → Option (List ℕ)) → Type 0
  Traced script result old new = TraceEnds Steps total next show closing lead opening begun fits refuses Needs l script result old new

  -- nothing was made for a trace
  pub unprepared : (script : Script) (why : Unprepared F) (old : W → Option (List ℕ)) → refuses script why → Traced script (Err (of_unprepared why)) old old
  unprepared script (reasons.Trace fault) old refused = (refused, keeps_all old)
  unprepared script (reasons.New fault) old refused = (refused, keeps_all old)
  unprepared script (reasons.Way fault) old refused = (refused, keeps_all old)
  unprepared script reasons.OutOfMemory old refused = inl (keeps_all old)

  -- something was, and its lines were played
  pub played_lines : (script : Script) (s : S) (header : Header) (requests : List Request) (result due : Result Summary Stop) (old new : W → Option (List ℕ)) → fits script s → header ≡ script.header → requests ≡ script.requests → result ≡ due
      → LinesEnd Steps total next show closing lead opening Needs (begun l header s) s requests result old new → IsPlayedTrace Steps total next show closing lead opening begun fits Needs l script due old new
  played_lines script s header requests result due old new fit first others is lines =
      let one = subst (λ (h : Header). LinesEnd Steps total next show closing lead opening Needs (begun l h s) s requests result old new) first lines in
      let two = subst (λ (rs : List Request). LinesEnd Steps total next show closing lead opening Needs (begun l script.header s) s rs result old new) others one in
      (s, fit, subst (λ (r : Result Summary Stop). LinesEnd Steps total next show closing lead opening Needs (begun l script.header s) s script.requests r old new) is two)

  -- it wasn't read
  pub ended-unread : (input : List ℕ) (fault : RunFault) (result : Result Summary (WayFault F)) (old : W → Option (List ℕ)) → result ≡ Err (of_run_fault fault) → IsUnread input fault → Ended input result old old
  ended-unread input fault result old is unread = inl (fault, is, unread, keeps_all old)

  pub told-unread : (known : Option (List ℕ)) (fault : RunFault) (result : Result Summary (WayFault F)) (old : W → Option (List ℕ)) → result ≡ Err (of_run_fault fault) → IfSome known (λ input. IsReadAs input (Err fault)) → IfSome known (λ input. Ended input result old old)
  told-unread None fault result old is unread = tt
  told-unread (Some input) fault result old is unread = ended-unread input fault result old is unread

  pub told-traced : (known : Option (List ℕ)) (script : Script) (result : Result Summary (WayFault F)) (old new : W → Option (List ℕ)) → IfSome known (λ input. IsReadAs input (Ok script)) → Traced script result old new → IfSome known (λ input. Ended input result old new)
  told-traced None script result old new read ended = tt
  told-traced (Some input) script result old new read ended = inr (script, read, ended)

  -- what is answered is what the plain heap answers
  abbrev pub PlainLaw : Type 0
  PlainLaw = (script : Script) (s : S) → fits script s → (requests : List Request) (seen : List (Seen S)) → Runs Steps 2 s requests seen → AreTransparent (empty_plain script.header.owners script.header.slots) requests (answers_in seen)

  module _ (plainly : PlainLaw) (input : List ℕ) (script : Script) (from to : Option (List ℕ)) (old new : W → Option (List ℕ)) (trace : IsTrace input script) (consumed : Consumes from to input) where
    played : (s : S) (requests : List Request) (seen : List (Seen S)) → fits script s → Runs Steps 2 s requests seen → IsPlainlyPlayed Steps fits script s requests seen from to
    played s requests seen fit runs =
        let means = trace_of-means input script trace.1 in
        record {
          spelled = means.0;
          read = subst (Consumes from to) means.1 consumed;
          made = fit;
          runs = runs;
          answered = plainly script s fit requests seen runs;
        }

    pub plain : (result : Result Summary (WayFault F)) → Traced script result old new → IfOk result (λ summary. IsPlainlyTold Steps total next show closing lead opening begun fits l summary from to old new)
    plain (Err fault) ended = tt
    plain (Ok summary) ended =
        let lines = ended.2 in
        (script, ended.0, lines.0, played ended.0 script.requests lines.0 ended.1 lines.1, lines.2, lines.3)

    pub plain_prefix : (result : Result Summary (WayFault F)) → Traced script result old new → IsErrOf result ends.Write → IsPlainlyCut Steps total next show closing lead opening begun fits l from to old new
    plain_prefix result ended failed =
        let cut : Traced script (Err ends.Write) old new = subst (λ (r : Result Summary (WayFault F)). Traced script r old new) failed ended in
        elim cut.2 as (λ _. IsPlainlyCut Steps total next show closing lead opening begun fits l from to old new) [
          | inl part ↦ inl (script, cut.0, part.0, part.1, played cut.0 (take part.0 script.requests) part.1 cut.1 part.2, part.3)
          | inr all ↦ inr (script, cut.0, all.0, played cut.0 script.requests all.0 cut.1 all.1, all.2)
        ]

    pub plain_memory : (result : Result Summary (WayFault F)) → Traced script result old new → IsErrOf result ends.OutOfMemory → KeepsAll old new ⊎ IsPlainlyStopped Steps total next show closing lead opening begun fits l from to old new
    plain_memory result ended failed =
        let short : Traced script (Err ends.OutOfMemory) old new = subst (λ (r : Result Summary (WayFault F)). Traced script r old new) failed ended in
        elim short as (λ _. KeepsAll old new ⊎ IsPlainlyStopped Steps total next show closing lead opening begun fits l from to old new) [
          | inl kept ↦ inl kept
          | inr stopped ↦ inr (script, stopped.0, stopped.2.1.0, stopped.2.1.1, played stopped.0 (take stopped.2.1.0 script.requests) stopped.2.1.1 stopped.1 stopped.2.1.2, stopped.2.1.3)
        ]
