-- Calls that are bounded on a plain heap find room, up to the first status of a limit.
use Rattle.std.proofs.Common.{◌≡◌, ℕ, zero, suc, ℤ, false, List, [], ◌∷◌, length, map, take, Option, Some, None, Result, Ok, Err, refl, sym, ap, subst, ◌∙◌}
use Rattle.std.specs.declared.alloc.Global.{Global}
use Rattle.std.proofs.lemmas.Bool.{true≢false}
use Rattle.std.proofs.lemmas.List.Elements.{All-cons, All-head, All-nil, All-tail}
use Rattle.std.proofs.lemmas.Option.{same_Some}
use Rattle.rh_layout.specs.Refusing.{first_of}
use Rattle.rh_layout.specs.declared.command.Command.{Command}
use Rattle.rh_layout.specs.declared.command.Command.TheVariants.{Load, Same}
use Rattle.rh_layout.specs.declared.command.Reply.{Reply}
use Rattle.rh_layout.specs.declared.command.Reply.TheVariants.{Done}
use Rattle.rh_layout.specs.declared.command.RootId.{RootId}
use Rattle.rh_layout.specs.declared.refusal.Refusal.{Refusal}
use Rattle.rh_model.specs.Plain.{PlainHeap, step}
use Rattle.rh_mutator.specs.Commands.{is_limit_answer}
use Rattle.rh_mutator.specs.Mutator.{MutatorState, StandsFor, graph_of}
use Rattle.rh_mutator.specs.StoringAll.{first_refusal, log_limit_for, number_stores}
use Rattle.rh_mutator.specs.lemmas.Limits.{IsOnlyLimit}
use Rattle.rh_core.specs.StoringAll.{done_replies}
use Rattle.rh_core.specs.runs.Programs.{AreUnlimited}
use Rattle.rh_pace.specs.Pace.{lag_of}
use Rattle.rh_pace.specs.Paced.{PacedState, paced_step}
use Rattle.rh_pace.specs.PlainBounds.{AreBounded, IsBounded, plain_after}
use Rattle.rh_pace.proofs.PacedPrograms.{ProgramLaws}
use Rattle.rh_pace.proofs.StoringAll.{first_refusal-met}
use Rattle.rh_pace.proofs.in_time.PlainCalls.{ReachesAtMost-stands, StandsInTime, goes_on-bounded}
use Rattle.rh_pace.proofs.kept_up.Laws.{StepLaws}
use Rattle.rheap_c.specs.Room.{AreCallsBounded, FindRoomIfFitToLimit, FindRoomToLimit, IsCallBounded, IsUnlimited}
use Rattle.rheap_c.specs.Rows.{after_row, plain_refusal, plain_unless_refused, ready_for, row_refusal}
use Rattle.rheap_c.specs.Runs.{Answer, AreMade, Call, IsMade, after_call, doing, is_limit_status, plain_unless_limited}
use Rattle.rheap_c.specs.Runs.Call.{Does, Loads, Compares, InsistsOn, CollectsNow, IncrementsNow, Peeks, ReadsField, ReadsRoot, Counts, TellsNumbers, StoresInts, InsistsOnInts, LoadsInts, LoadsText}
use Rattle.rheap_c.specs.Several.{AreStored, AreStoredUnless}
use Rattle.rheap_c.specs.Told.{status_of}
use Rattle.rheap_c.proofs.InTime.{CallMakesAtMost-bounded, HasLog-kept, HasLogToInsist-log, HasRowPlaces-kept, IsFullStatus, KeepsTime, KeepsTime-after_call, KeepsTime-ready, RowFitsAt-all, RowsFit-doing, after_call-setting, insisted-same, ready-setting, spent-made}
use Rattle.rheap_c.proofs.Rows.{AreStoredInsisting-ready, AreStoredInsisting-stands, AreStoredUnless-after, is_limit_status-status_of, log_limit_for-IsOnlyLimit}
use Rattle.rheap_c.proofs.Runs.{IsMade-after, IsMade-answer, IsMade-plain}

-- no limit refused what was done
unlimited-done : (n : ℕ) → AreUnlimited (done_replies n)
unlimited-done zero = All-nil (λ answer. is_limit_answer answer ≡ false)
unlimited-done (suc n) =
    All-cons (λ answer. is_limit_answer answer ≡ false) (Ok Done) (done_replies n) refl (unlimited-done n)

-- nor what has no status of a limit
unlimited-told : (status : ℕ) (told : Result Reply Refusal) → is_limit_status status ≡ false → status ≡ status_of told → is_limit_answer told ≡ false
unlimited-told status told free is = sym (is_limit_status-status_of told) ∙ ap is_limit_status (sym is) ∙ free

module _ (laws : StepLaws) (told : ProgramLaws Global) (live biggest : ℕ) where
  module _ (s : PacedState) (p : PlainHeap) (on : StandsInTime live biggest s p) where
    keeps-on : KeepsTime live biggest s
    keeps-on = record { well = on.well; paced = on.paced; in_time = on.in_time }

    -- a command goes on in time, where no limit refuses it
    command-on : (owner : ℕ) (command : Command) → IsBounded live biggest p owner command → is_limit_answer (paced_step s owner command).1 ≡ false
        → StandsInTime live biggest (paced_step s owner command).0 (step p owner command).0
    command-on owner command bounded free =
        goes_on-bounded Global laws told live biggest ((owner, command) ∷ []) s p on (bounded, tt)
        (All-cons (λ answer. is_limit_answer answer ≡ false) (paced_step s owner command).1 [] free (All-nil (λ answer. is_limit_answer answer ≡ false)))

    -- so does a row
    module _ (row : List (ℕ × Command)) (bounded : plain_refusal p row ≡ None → AreBounded live biggest p row)
        (after : PacedState) (status : ℕ) (free : is_limit_status status ≡ false) where
      row-by : (asked limit : Option Refusal) → IsOnlyLimit limit → asked ≡ plain_refusal p row → AreStoredUnless (first_of asked limit) s after row status
          → StandsInTime live biggest after (plain_unless_refused asked p row)
      row-by (Some why) limit only met (same, rank) = subst (λ t. StandsInTime live biggest t p) (sym same) on
      row-by None None only met (done, zero_is) =
          subst (λ t. StandsInTime live biggest t (plain_after p row)) (sym done.state)
          (goes_on-bounded Global laws told live biggest row s p on (bounded (sym met)) (subst AreUnlimited (sym done.answers) (unlimited-done (length row))))
      row-by None (Some why) only met (same, rank) =
          absurd (true≢false (sym only ∙ unlimited-told status (Err why) free rank))

      row-on : (asked limit : Option Refusal) → IsOnlyLimit limit → asked ≡ plain_refusal p row → AreStoredUnless (first_of asked limit) s after row status
          → StandsInTime live biggest after (plain_unless_refused (plain_refusal p row) p row)
      row-on asked limit only met stored =
          subst (λ o. StandsInTime live biggest after (plain_unless_refused o p row)) met (row-by asked limit only met stored)

    stored-on : (owner : ℕ) (object : RootId) (from : ℕ) (numbers : List ℤ) (new : Option PacedState) (status : ℕ) → is_limit_status status ≡ false
        → let row : List (ℕ × Command) = number_stores owner object from numbers in
        (plain_refusal p row ≡ None → AreBounded live biggest p row) → AreStored (Some s) new owner object from numbers status
        → StandsInTime live biggest (after_row s owner object from numbers) (plain_unless_refused (plain_refusal p row) p row)
    stored-on owner object from numbers new status free bounded (after, is, stored) =
        let m : MutatorState = s.heap.mutators in
        let row : List (ℕ × Command) = number_stores owner object from numbers in
        subst (λ t. StandsInTime live biggest t (plain_unless_refused (plain_refusal p row) p row))
        (AreStoredUnless-after (row_refusal s owner object from numbers) s after row status stored)
        (row-on row bounded after status free (first_refusal (graph_of m) row) (log_limit_for (length numbers) m.cycle m.log)
        (log_limit_for-IsOnlyLimit m (length numbers)) (first_refusal-met m p on.stands owner object from numbers) stored)

  module _ (s : PacedState) (p : PlainHeap) (on : StandsInTime live biggest s p) where
    -- and collector work
    worked-on : (t : PacedState) → KeepsTime live biggest t → (t.pace ≡ s.pace) × (t.heap.mutators.config ≡ s.heap.mutators.config)
        → StandsFor t.heap.mutators p → StandsInTime live biggest t p
    worked-on t keeps setting stands =
        record { well = keeps.well; paced = keeps.paced; in_time = keeps.in_time; stands = stands; log = HasLog-kept biggest s t setting.0 setting.1 on.log }

    -- a call goes on in time, where it has no status of a limit
    after_call-on : (call : Call) (new : Option PacedState) (a : Answer) → IsCallBounded live biggest p call
        → IsMade (Some s) new call a → is_limit_status a.status ≡ false → StandsInTime live biggest (after_call s call) (plain_unless_limited false p call)
    after_call-on (Does owner command) new a bounded made free =
        command-on s p on owner command bounded.0
        (unlimited-told a.status (paced_step s owner command).1 free (ap (λ (b : Answer). b.status) (IsMade-answer s new (Does owner command) a made)))
    after_call-on (Loads owner dst src field) new a bounded made free =
        command-on s p on owner (Load dst src field) bounded.0
        (unlimited-told a.status (paced_step s owner (Load dst src field)).1 free (ap (λ (b : Answer). b.status) (IsMade-answer s new (Loads owner dst src field) a made)))
    after_call-on (Compares owner r q) new a bounded made free =
        command-on s p on owner (Same r q) bounded.0
        (unlimited-told a.status (paced_step s owner (Same r q)).1 free (ap (λ (b : Answer). b.status) (IsMade-answer s new (Compares owner r q) a made)))
    after_call-on (InsistsOn owner command) new a bounded made free =
        let same = insisted-same laws live biggest s (keeps-on s p on) owner command bounded.0.0 on.log in
        let status = ap (λ (b : Answer). b.status) (IsMade-answer s new (InsistsOn owner command) a made)
        ∙ ap (λ (r : PacedState × Result Reply Refusal). status_of r.1) same in
        subst (λ (r : PacedState × Result Reply Refusal). StandsInTime live biggest r.0 (step p owner command).0) (sym same)
        (command-on s p on owner command bounded.0 (unlimited-told a.status (paced_step s owner command).1 free status))
    after_call-on CollectsNow new a bounded made free =
        worked-on (after_call s CollectsNow)
        (KeepsTime-after_call laws live biggest s (keeps-on s p on) CollectsNow (λ off. ReachesAtMost-stands s.heap p on.stands live bounded) tt)
        (after_call-setting laws live biggest s (keeps-on s p on) CollectsNow tt tt)
        (IsMade-plain s new CollectsNow a p made on.stands).1
    after_call-on IncrementsNow new a bounded made free =
        worked-on (after_call s IncrementsNow)
        (KeepsTime-after_call laws live biggest s (keeps-on s p on) IncrementsNow tt tt)
        (after_call-setting laws live biggest s (keeps-on s p on) IncrementsNow tt tt)
        (IsMade-plain s new IncrementsNow a p made on.stands).1
    after_call-on (Peeks owner src field) new a bounded made free = on
    after_call-on (ReadsField root field) new a bounded made free = on
    after_call-on (ReadsRoot root) new a bounded made free = on
    after_call-on (Counts root) new a bounded made free = on
    after_call-on TellsNumbers new a bounded made free = on
    after_call-on (StoresInts owner object from numbers) new a bounded made free =
        stored-on s p on owner object from numbers new a.status free bounded.1 made.0
    after_call-on (InsistsOnInts owner object from numbers) new a bounded made free =
        stored-on (ready_for s owner object from numbers) p
        (worked-on (ready_for s owner object from numbers) (KeepsTime-ready laws live biggest s (keeps-on s p on) owner object from numbers)
        (ready-setting laws live biggest s (keeps-on s p on) owner object from numbers)
        (AreStoredInsisting-stands s owner object from numbers new a.status p made.0 on.stands))
        owner object from numbers new a.status free bounded.1 (AreStoredInsisting-ready s owner object from numbers new a.status made.0)
    after_call-on (LoadsInts owner object from before) new a bounded made free = on
    after_call-on (LoadsText owner object from before) new a bounded made free = on

  -- calls one after the other
  pub FindRoomIfFit-bounded : (calls : List Call) (s : PacedState) (p : PlainHeap) (new : Option PacedState) (answers : List Answer)
      → StandsInTime live biggest s p → AreCallsBounded live biggest p calls → AreMade (Some s) new calls answers → FindRoomIfFitToLimit biggest s calls answers
  FindRoomIfFit-bounded [] s p new [] on bounded made i a is unlimited row full = absurd (cc)
  FindRoomIfFit-bounded [] s p new (b ∷ more) on bounded made i a is unlimited row full = absurd made
  FindRoomIfFit-bounded (call ∷ calls) s p new [] on bounded made i a is unlimited row full = absurd made
  FindRoomIfFit-bounded (call ∷ calls) s p new (b ∷ more) on bounded (between, made, rest) zero a is unlimited row full =
      spent-made laws live biggest s (keeps-on s p on) on.log call between b made (CallMakesAtMost-bounded live biggest p call bounded.0) row
      (subst (λ (x : Answer). IsFullStatus x.status) (sym (same_Some b a is)) full)
  FindRoomIfFit-bounded (call ∷ calls) s p new (b ∷ more) on bounded (between, made, rest) (suc i) a is unlimited row full =
      let t : PacedState = after_call s call in
      let insists = HasLogToInsist-log biggest s call on.log in
      let setting = after_call-setting laws live biggest s (keeps-on s p on) call (CallMakesAtMost-bounded live biggest p call bounded.0) insists in
      FindRoomIfFit-bounded calls t (plain_unless_limited false p call) new more
      (after_call-on s p on call between b bounded.0 made (All-head IsUnlimited b (take i more) unlimited)) bounded.1
      (subst (λ (c : Option PacedState). AreMade c new calls more) (IsMade-after s between call b made) rest)
      i a is (All-tail IsUnlimited b (take i more) unlimited) (HasRowPlaces-kept biggest t s (sym setting.0, sym setting.1) calls i row) full

-- commands that are bounded are calls that are
pub AreCallsBounded-doing : (live biggest : ℕ) (given : List (ℕ × Command)) (p : PlainHeap) → AreBounded live biggest p given
    → AreCallsBounded live biggest p (map doing given)
AreCallsBounded-doing live biggest [] p bounded = tt
AreCallsBounded-doing live biggest (c ∷ given) p bounded =
    ((bounded.0, tt), AreCallsBounded-doing live biggest given (step p c.0 c.1).0 bounded.1)

-- and find room
pub FindRoomToLimit-doing : (biggest : ℕ) (s : PacedState) (given : List (ℕ × Command)) (answers : List Answer)
    → FindRoomIfFitToLimit biggest s (map doing given) answers → FindRoomToLimit s (map doing given) answers
FindRoomToLimit-doing biggest s given answers room i a is unlimited full =
    let lag : ℕ = lag_of s.pace biggest in
    let limit : ℕ = s.heap.mutators.config.log_limit in
    room i a is unlimited (RowFitsAt-all lag limit (map doing given) i (RowsFit-doing lag limit given)) full
