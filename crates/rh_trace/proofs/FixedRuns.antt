-- Runs on a heap of the first line's sizes, whose answers are written.
use Rattle.std.proofs.Common.{◌≡◌, ◌⊎◌, inl, inr, ℕ, ◌<◌, ◌≤◌, Bool, true, false, List, [], length, Option, Some, None, Result, Ok, Err, refl, sym, ap, subst, ◌∙◌, nat_lt, if◌then◌else◌, IfOk, IfSome, IsErrOf}
use Rattle.std.specs.List.{flat_map}
use Rattle.std.specs.Io.KnownBytes.{Appends, Consumes, Keeps}
use Rattle.std.proofs.lemmas.Bool.{le-ltb, lt-ltb}
use Rattle.rh_mutator.specs.declared.config.ConfigFault.{ConfigFault}
use Rattle.rh_core.specs.Config.{fault_of}
use Rattle.rh_text.specs.Output.{AppendsLess, AppendsPrefix}
use Rattle.rh_text.specs.lemmas.Appends.{Appends-none}
use Rattle.rh_engine.specs.Engine.{EngineState}
use Rattle.rh_syntax.specs.declared.fault.TraceFault.{TraceFault}
use Rattle.rh_syntax.specs.declared.line.Header.{Header}
use Rattle.rh_syntax.specs.Reading.{trace_of}
use Rattle.rh_syntax.specs.Spelling.{Script}
use Rattle.rh_trace.specs.declared.run_fault.RunFault.{RunFault}
use Rattle.rh_trace.specs.declared.run_fault.RunFault.TheVariants as faults
use Rattle.rh_trace.specs.declared.stop.Stop.TheVariants as stops
use Rattle.rh_trace.specs.declared.summary.Summary.{Summary}
use Rattle.rh_trace.specs.declared.way_fault.WayFault.{WayFault}
use Rattle.rh_trace.specs.declared.way_fault.WayFault.TheVariants as ends
use Rattle.rh_trace.specs.Answers.{Answered, answered_text, total_line}
use Rattle.rh_trace.specs.Fixed.{FixedEnds, EngineSteps, IsFixedRefusal, IsFixedRun, by_way}
use Rattle.rh_trace.specs.Lines.{Seen}
use Rattle.rh_trace.specs.Run.{answers_of, answers_to, config_of, new_run, output_of, run_of, run_of_script, run_of_trace, summary_of, text_of, Ends, IsPlainRun, StopsBeforeTotal}
use Rattle.rh_trace.specs.Ways.{IsTrace, IsUnread, TraceEnds, of_run_fault}
use Rattle.rh_trace.proofs.AnswersInTurn.{run-made, run-new}
use Rattle.rh_trace.proofs.EngineLines.{before_total, summary_told, written}
use Rattle.rh_trace.proofs.LinesInTurn.{Appends-keeps}
use Rattle.rh_trace.proofs.PlainAnswers.{Begins, Dumps, IsPlainCut, IsPlainStop, StaysWellFormed, Steps, plain, plain_memory, plain_prefix}

-- ---- faults as a way's

abbrev back : {F : Type 0} → WayFault F → RunFault
back ends.Read = faults.Read
back ends.Long = faults.Long
back (ends.Trace fault) = faults.Trace fault
back (ends.New fault) = faults.New fault
back (ends.Way fault) = faults.Read
back ends.Write = faults.Write
back ends.OutOfMemory = faults.OutOfMemory

back_is : (F : Type 0) (fault : RunFault) → back {F = F} (of_run_fault fault) ≡ fault
back_is F faults.Read = refl
back_is F faults.Long = refl
back_is F (faults.Trace fault) = refl
back_is F (faults.New fault) = refl
back_is F faults.Write = refl
back_is F faults.OutOfMemory = refl

same_fault : {F : Type 0} (a b : RunFault) → of_run_fault {F = F} a ≡ of_run_fault b → a ≡ b
same_fault {F} a b e = sym (back_is F a) ∙ ap back e ∙ back_is F b

errs : {X E : Type 0} (a b : E) → ◌≡◌ {A = Result X E} (Err a) (Err b) → a ≡ b
errs a b e = cc

ok_or_err : {X E : Type 0} (x : X) (e : E) → ◌≡◌ {A = Result X E} (Ok x) (Err e) → ⊥
ok_or_err x e same = absurd cc

pub same_result : {F : Type 0} (result : Result Summary RunFault) (fault : RunFault) → by_way {F = F} result ≡ Err (of_run_fault fault) → result ≡ Err fault
same_result (Ok summary) fault e = absurd (ok_or_err summary (of_run_fault fault) e)
same_result (Err other) fault e = ap Err (same_fault other fault (errs (of_run_fault other) (of_run_fault fault) e))

-- ---- nothing was written

kept_script : (fault : Option ConfigFault) (script : Script) (a b : Option (List ℕ)) → Keeps a b → StopsBeforeTotal (run_of_script fault script) a b
kept_script (Some fault) script a b kept = kept
kept_script None script a b kept =
    let text = flat_map answered_text (answers_of script) in
    (text, refl, ([], text, refl, Appends-keeps a a b [] (Appends-none a) kept))

kept_trace : (read : Result Script TraceFault) (a b : Option (List ℕ)) → Keeps a b → StopsBeforeTotal (run_of_trace read) a b
kept_trace (Err fault) a b kept = kept
kept_trace (Ok script) a b kept = kept_script (fault_of (config_of script.header)) script a b kept

kept_if : (long : Bool) (read : Result Script TraceFault) (a b : Option (List ℕ)) → Keeps a b → StopsBeforeTotal (if long then Err faults.Long else run_of_trace read) a b
kept_if true read a b kept = kept
kept_if false read a b kept = kept_trace read a b kept

-- ---- what an input's length says

run_if : (long : Bool) (read : Result Script TraceFault) → long ≡ true → (if long then Err faults.Long else run_of_trace read) ≡ Err faults.Long
run_if true read e = refl
run_if false read e = absurd cc

run_unless : (long : Bool) (read : Result Script TraceFault) → long ≡ false → (if long then Err faults.Long else run_of_trace read) ≡ run_of_trace read
run_unless true read e = absurd cc
run_unless false read e = refl

run_of_long : (input : List ℕ) → 16777216 < length input → run_of input ≡ Err faults.Long
run_of_long input long = run_if (nat_lt 16777216 (length input)) (trace_of input) (lt-ltb 16777216 (length input) long)

pub run_of_within : (input : List ℕ) → length input ≤ 16777216 → run_of input ≡ run_of_trace (trace_of input)
run_of_within input few = run_unless (nat_lt 16777216 (length input)) (trace_of input) (le-ltb 16777216 (length input) few)

-- ---- how a run ends

-- a trace that was read
abbrev Traced : {F : Type 0} → Script → Result Summary (WayFault F) → Option (List ℕ) → Option (List ℕ) → Type 0
Traced script result old new =
    TraceEnds {W = Unit {0}} EngineSteps (λ s counted. counted) (λ (l : Unit {0}) (one : Seen EngineState). l)
    (λ (l : Unit {0}) (one : Seen EngineState) w. answered_text one.answered) (λ (l : Unit {0}) summary w. total_line summary) tt (λ w. [])
    (λ (l : Unit {0}) (header : Header) (s : EngineState). l) IsFixedRun IsFixedRefusal ⊥ tt script result (λ w. old) (λ w. new)

module _ (input : List ℕ) (script : Script) (trace : IsTrace input script) (old new : Option (List ℕ)) where
  abbrev due : Result (List ℕ × Summary) RunFault
  due = run_of_trace (trace_of input)

  abbrev text : List ℕ
  text = output_of (answers_of script)

  made : fault_of (config_of script.header) ≡ None → due ≡ Ok (text, summary_of (answers_of script))
  made good = run-made (trace_of input) script trace.1 good

  answered : (s : EngineState) → s ≡ new_run script → answers_to s script.requests ≡ answers_of script
  answered s is = ap (λ (e : EngineState). answers_to e script.requests) is

  ends-traced : (F : Type 0) (result : Result Summary RunFault) → Traced {F = F} script (by_way result) old new → Ends due result old new
  ends-traced F (Ok summary) ended =
      let s = ended.0 in
      let same = answered s ended.1.1 in
      let run = made ended.1.0 in
      let whole : text_of due ≡ text = ap text_of run in
      let sum : summary ≡ summary_of (answers_of script) = summary_told s script.requests (λ w. old) (λ w. new) (Ok summary) ended.2 ∙ ap summary_of same in (
        run ∙ ap (λ (t : List ℕ). Ok (t, summary_of (answers_of script))) (sym whole) ∙ ap (λ (x : Summary). Ok (text_of due, x)) (sym sum),
        subst (Appends old new) (ap output_of same ∙ sym whole) (written s script.requests (λ w. old) (λ w. new) (Ok summary) ended.2),
      )
  ends-traced F (Err faults.Write) ended =
      let s = ended.0 in
      subst (AppendsLess old new) (ap output_of (answered s ended.1.1) ∙ sym (ap text_of (made ended.1.0)))
      (written s script.requests (λ w. old) (λ w. new) (Err stops.Write) ended.2)
  ends-traced F (Err faults.OutOfMemory) (inl kept) = kept_trace (trace_of input) old new (kept tt)
  ends-traced F (Err faults.OutOfMemory) (inr ended) =
      let s = ended.0 in
      let answers = flat_map answered_text (answers_of script) in
      let cut = before_total s script.requests (λ w. old) (λ w. new) (Err stops.OutOfMemory) refl ended.2 in
      subst (λ (d : Result (List ℕ × Summary) RunFault). StopsBeforeTotal d old new) (sym (made ended.1.0))
      (answers, refl, subst (AppendsPrefix old new) (ap (flat_map answered_text) (answered s ended.1.1)) cut)
  ends-traced F (Err (faults.Trace fault)) ended = absurd ended.0
  ends-traced F (Err (faults.New fault)) ended = (run-new (trace_of input) script fault trace.1 ended.0, ended.1 tt)
  ends-traced F (Err faults.Read) ended = absurd ended
  ends-traced F (Err faults.Long) ended = absurd ended

ends-unread : (input : List ℕ) (fault : RunFault) (old new : Option (List ℕ)) → IsUnread input fault → Keeps old new → Ends (run_of input) (Err fault) old new
ends-unread input faults.Long old new unread kept = (run_of_long input unread, kept)
ends-unread input (faults.Trace fault) old new unread kept = (run_of_within input unread.0 ∙ ap run_of_trace unread.1, kept)
ends-unread input faults.Read old new unread kept = kept
ends-unread input faults.OutOfMemory old new unread kept = kept_if (nat_lt 16777216 (length input)) (trace_of input) old new kept
ends-unread input (faults.New fault) old new unread kept = absurd unread
ends-unread input faults.Write old new unread kept = absurd unread

pub ends_as : (F : Type 0) (input : List ℕ) (result : Result Summary RunFault) (old new : Option (List ℕ)) → FixedEnds {F = F} input (by_way result) old new → Ends (run_of input) result old new
ends_as F input result old new (inl unread) =
    subst (λ (r : Result Summary RunFault). Ends (run_of input) r old new) (sym (same_result result unread.0 unread.1))
    (ends-unread input unread.0 old new unread.2 (unread.3 tt))
ends_as F input result old new (inr ended) =
    subst (λ (d : Result (List ℕ × Summary) RunFault). Ends d result old new) (sym (run_of_within input ended.1.0))
    (ends-traced input ended.0 ended.1 old new F result ended.2)

-- the outcome of any run by such a way is one that a run may have
plain_traced : {F : Type 0} (script : Script) (outcome : Result Summary (WayFault F)) (old new : Option (List ℕ)) → Traced script outcome old new → (result : Result Summary RunFault) × (outcome ≡ by_way result)
plain_traced script (Ok summary) old new ended = (Ok summary, refl)
plain_traced script (Err ends.Write) old new ended = (Err faults.Write, refl)
plain_traced script (Err ends.OutOfMemory) old new ended = (Err faults.OutOfMemory, refl)
plain_traced script (Err (ends.Trace fault)) old new ended = absurd ended.0
plain_traced script (Err (ends.New fault)) old new ended = (Err (faults.New fault), refl)
plain_traced script (Err (ends.Way fault)) old new ended = absurd ended.0
plain_traced script (Err ends.Read) old new ended = absurd ended
plain_traced script (Err ends.Long) old new ended = absurd ended

plain_outcome : {F : Type 0} (input : List ℕ) (outcome : Result Summary (WayFault F)) (old new : Option (List ℕ)) → FixedEnds input outcome old new → (result : Result Summary RunFault) × (outcome ≡ by_way result)
plain_outcome input outcome old new (inl unread) = (Err unread.0, unread.1)
plain_outcome input outcome old new (inr ended) = plain_traced ended.0 outcome old new ended.2

pub ends_plainly : {F : Type 0} (input : List ℕ) (outcome : Result Summary (WayFault F)) (old new : Option (List ℕ)) → FixedEnds input outcome old new
    → (result : Result Summary RunFault) × (outcome ≡ by_way result) × Ends (run_of input) result old new
ends_plainly {F} input outcome old new ended =
    let plain = plain_outcome input outcome old new ended in
    (plain.0, plain.1, ends_as F input plain.0 old new (subst (λ (o : Result Summary (WayFault F)). FixedEnds input o old new) plain.1 ended))

pub told_as : (F : Type 0) (known : Option (List ℕ)) (result : Result Summary RunFault) (old new : Option (List ℕ)) → IfSome known (λ input. FixedEnds {F = F} input (by_way result) old new) → IfSome known (λ input. Ends (run_of input) result old new)
told_as F None result old new ended = tt
told_as F (Some input) result old new ended = ends_as F input result old new ended

module _ {A : Type 0} (keeps : StaysWellFormed A) (steps : Steps A) (begins : Begins) (dumps : Dumps) (input : List ℕ) (from to old new : Option (List ℕ)) (consumed : Consumes from to input) (result : Result Summary RunFault) where
  -- what was answered, where the run succeeded
  abbrev pub IsPlainEnd : Result Summary RunFault → Type 0
  IsPlainEnd ended = IfOk ended (λ summary. (script : Script) × (answers : List Answered) × IsPlainRun script answers from to × (summary ≡ summary_of answers) × Appends old new (output_of answers))

  pub plain_as : (F : Type 0) → FixedEnds {F = F} input (by_way result) old new → IsPlainEnd result
  plain_as F (inl unread) = subst IsPlainEnd (sym (same_result result unread.0 unread.1)) tt
  plain_as F (inr ended) = plain keeps steps begins dumps input from to old new consumed result (ends-traced input ended.0 ended.1 old new F result ended.2)

  pub plain_prefix_as : (F : Type 0) → FixedEnds {F = F} input (by_way result) old new → IsErrOf result faults.Write → IsPlainCut from to old new
  plain_prefix_as F (inl unread) failed =
      absurd (subst (IsUnread input) (errs unread.0 faults.Write (sym (same_result result unread.0 unread.1) ∙ failed)) unread.2)
  plain_prefix_as F (inr ended) failed = plain_prefix keeps steps begins dumps input from to old new consumed result (ends-traced input ended.0 ended.1 old new F result ended.2) failed

  pub plain_memory_as : (F : Type 0) → FixedEnds {F = F} input (by_way result) old new → IsErrOf result faults.OutOfMemory → Keeps old new ⊎ IsPlainStop from to old new
  plain_memory_as F (inl unread) failed = inl (unread.3 tt)
  plain_memory_as F (inr ended) failed = plain_memory keeps steps begins dumps input from to old new consumed result (ends-traced input ended.0 ended.1 old new F result ended.2) failed

-- ---- what `run_trace` is answered, where a run by the way failed so

pub failed_as : {F : Type 0} (outcome : WayFault F) (fault : RunFault) (input : List ℕ) (old new : Option (List ℕ)) → outcome ≡ of_run_fault fault → FixedEnds input (Err outcome) old new → FixedEnds {F = F} input (by_way (Err fault)) old new
failed_as {F} outcome fault input old new is ended = subst (λ (f : WayFault F). FixedEnds input (Err f) old new) is ended

pub failed_ends_as : {F : Type 0} (outcome : WayFault F) (fault : RunFault) (input : List ℕ) (old new : Option (List ℕ)) → outcome ≡ of_run_fault fault → FixedEnds input (Err outcome) old new → Ends (run_of input) (Err fault) old new
failed_ends_as {F} outcome fault input old new is ended = ends_as F input (Err fault) old new (failed_as outcome fault input old new is ended)

pub failed_told_as : {F : Type 0} (known : Option (List ℕ)) (outcome : WayFault F) (fault : RunFault) (old new : Option (List ℕ)) → outcome ≡ of_run_fault fault → IfSome known (λ input. FixedEnds input (Err outcome) old new) → IfSome known (λ input. Ends (run_of input) (Err fault) old new)
failed_told_as None outcome fault old new is ended = tt
failed_told_as (Some input) outcome fault old new is ended = failed_ends_as outcome fault input old new is ended

-- it failed by a fault of the same name
pub failed_by : {F X Y : Type 0} (outcome : WayFault F) (fault due : RunFault) → outcome ≡ of_run_fault fault → ◌≡◌ {A = Result X RunFault} (Err fault) (Err due) → ◌≡◌ {A = Result Y (WayFault F)} (Err outcome) (Err (of_run_fault due))
failed_by {F} outcome fault due is failed = ap Err (is ∙ ap (of_run_fault {F = F}) (errs fault due failed))
