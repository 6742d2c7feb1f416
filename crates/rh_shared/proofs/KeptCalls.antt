-- Calls of what lies under the lock: what they make of it, and that the history stays legal.
use Rattle.std.proofs.Common.{◌≡◌, ℕ, ◌<◌, ◌≤◌, ◌↔◌, Bool, true, false, Some, None, Result, Ok, Err, is_ok, length, inl, inr, refl, sym, ap, subst, ◌∙◌, arith}
use Rattle.std.proofs.lemmas.Bool.{le-ltb, lt-ltb, ltb-true, ltb-false}
use Rattle.std.specs.Prelude.{IsTrue, nat_lt, if◌then◌else◌}
use Rattle.rh_layout.specs.Refusal.{is_limit}
use Rattle.rh_layout.specs.declared.command.Command.{Command}
use Rattle.rh_layout.specs.declared.command.Reply.{Reply}
use Rattle.rh_layout.specs.declared.refusal.Refusal.{Refusal}
use Rattle.rh_model.specs.Plain.{empty_plain, step}
use Rattle.rh_mutator.specs.Commands.{AnswersAs, is_limit_answer, plain_unless}
use Rattle.rh_mutator.specs.Mutator.{StandsFor}
use Rattle.rh_core.specs.Heap.{HeapState}
use Rattle.rh_core.specs.Commands.{heap_step}
use Rattle.rh_replay.specs.declared.call.Call.{Call}
use Rattle.rh_replay.specs.History.{HistoryState, RecorderState, empty_history, noted_unless, with_call}
use Rattle.rh_replay.specs.Legal.{IsLegal, replay}
use Rattle.rh_shared.specs.declared.kept.CallError.{CallError}
use Rattle.rh_shared.specs.declared.kept.CallError.TheVariants as call_errors
use Rattle.rh_collector.specs.declared.did.Did.{Did}
use Rattle.rh_collector.specs.Collector.{CollectorState, with_heap}
use Rattle.rh_collector.specs.Collected.{IsCollected, most_units}
use Rattle.rh_collector.specs.Increment.{increment, Meets, Met}
use Rattle.rh_replay.proofs.Replays.{legal-with_call, replay-with_call}
use Rattle.rh_shared.specs.Kept.{CallMeets, IsKept, KeptState, full_refusal, kept_call, kept_increment, refused_where, with_command, with_noted}

-- an answer that isn't a limit's is the plain heap's
pub same_answer : (answer plain : Result Reply Refusal) → AnswersAs answer plain → is_limit_answer answer ≡ false → answer ≡ plain
same_answer answer plain (inl same) kept = same.1
same_answer answer plain (inr limited) kept = cc (limited.0, kept)

-- A call that is noted with the heap's answer keeps the history legal, and what the heap stands for.
pub IsKept-noted : (h : HistoryState) (before after : HeapState) (owner : ℕ) (command : Command) (answer : Result Reply Refusal)
    → IsKept h before → is_limit_answer answer ≡ false
    → AnswersAs answer (step (replay h) owner command).1
    → StandsFor after.mutators (plain_unless (is_limit_answer answer) (replay h) owner command)
    → IsKept (with_call h (record { owner = owner; command = command; answer = answer })) after
IsKept-noted h before after owner command answer was kept answered stands =
    let call : Call = record { owner = owner; command = command; answer = answer } in
    let moved : StandsFor after.mutators (step (replay h) owner command).0 = subst (λ b. StandsFor after.mutators (plain_unless b (replay h) owner command)) kept stands in
    record {
      legal = legal-with_call h call was.legal (same_answer answer (step (replay h) owner command).1 answered kept);
      stands = subst (λ p. StandsFor after.mutators p) (sym (replay-with_call h call)) moved;
    }

-- Where a limit refused, nothing was noted.
pub IsKept-limited : (h : HistoryState) (before after : HeapState) (owner : ℕ) (command : Command) (answer : Result Reply Refusal)
    → IsKept h before → is_limit_answer answer ≡ true
    → StandsFor after.mutators (plain_unless (is_limit_answer answer) (replay h) owner command)
    → IsKept h after
IsKept-limited h before after owner command answer was limited stands = record {
  legal = was.legal;
  stands = subst (λ b. StandsFor after.mutators (plain_unless b (replay h) owner command)) limited stands;
}

-- Whether it is noted or not.
pub IsKept-noted_unless : (h : HistoryState) (before after : HeapState) (owner : ℕ) (command : Command) (answer : Result Reply Refusal)
    → IsKept h before
    → AnswersAs answer (step (replay h) owner command).1
    → StandsFor after.mutators (plain_unless (is_limit_answer answer) (replay h) owner command)
    → IsKept (noted_unless (is_limit_answer answer) h (record { owner = owner; command = command; answer = answer })) after
IsKept-noted_unless h before after owner command answer was answered stands = by_test (is_limit_answer answer) refl
  where
    call : Call
    call = record { owner = owner; command = command; answer = answer }

    by_test : (b : Bool) → is_limit_answer answer ≡ b → IsKept (noted_unless b h call) after
    by_test true limited = IsKept-limited h before after owner command answer was limited stands
    by_test false kept = IsKept-noted h before after owner command answer was kept answered stands

-- An increment.

-- the collector and what it did are those of the increment
pub increment-does : {A : Type 0} (met : Met) (k : KeptState A) (after : CollectorState A) (did : Did) → after ≡ (increment met k.collector).0 → did ≡ (increment met k.collector).1
    → (record k { collector = after; last = did }, did) ≡ kept_increment met k
unfolding kept_increment
increment-does met k after did leads does = cc

-- Whether there is room for a call.

-- a history that isn't at its limit has room
pub room_left : (b : Bool) (n most : ℕ) → b ≡ false → (IsTrue b ↔ (n ≡ most)) → n ≤ most → n < most
room_left b n most not_full full few = by_test (nat_lt n most) refl
  where
    by_test : (t : Bool) → nat_lt n most ≡ t → n < most
    by_test true e = ltb-true n most e
    by_test false e = let same : n ≡ most = omega (arith, ltb-false n most e, few) in absurd (cc (full.1 same, not_full))

pub full_refusal-full : {A : Type 0} (k : KeptState A) → length k.recorder.history.calls ≡ k.recorder.limit → full_refusal k ≡ Some call_errors.TraceFull
full_refusal-full k full = rw (le-ltb (length k.recorder.history.calls) k.recorder.limit (omega (arith, full))) refl

pub full_refusal-room : {A : Type 0} (k : KeptState A) → length k.recorder.history.calls < k.recorder.limit → full_refusal k ≡ None
full_refusal-room k room = rw (lt-ltb (length k.recorder.history.calls) k.recorder.limit room) refl

-- no call is refused before it comes to the heap but for a history that is full
pub full_refusal-kind : {A : Type 0} (k : KeptState A) (e : CallError) → full_refusal k ≡ Some e → e ≡ call_errors.TraceFull
full_refusal-kind k e is = by_test (nat_lt (length k.recorder.history.calls) k.recorder.limit) is
  where
    by_test : (b : Bool) → (if b then None else Some call_errors.TraceFull) ≡ Some e → e ≡ call_errors.TraceFull
    by_test true is = cc is
    by_test false is = cc is

-- The four ends of a call.

pub kept_call-full : {A : Type 0} (met : Met) (k : KeptState A) (owner : ℕ) (command : Command) → full_refusal k ≡ Some call_errors.TraceFull
    → kept_call met k owner command ≡ (k, Err call_errors.TraceFull)
unfolding kept_call
kept_call-full met k owner command full = rw full refl

pub kept_call-accepted : {A : Type 0} (met : Met) (k : KeptState A) (owner : ℕ) (command : Command) (reply : Reply) → full_refusal k ≡ None
    → (heap_step k.collector.heap owner command).1 ≡ Ok reply
    → kept_call met k owner command ≡ (with_noted (kept_increment met (with_command k owner command)).0 owner command (Ok reply), Ok reply)
unfolding kept_call
kept_call-accepted met k owner command reply room answer = rw (room, answer) refl

pub kept_call-refused : {A : Type 0} (met : Met) (k : KeptState A) (owner : ℕ) (command : Command) (refusal : Refusal) → full_refusal k ≡ None
    → (heap_step k.collector.heap owner command).1 ≡ Err refusal
    → kept_call met k owner command ≡ (refused_where (is_limit refusal) (with_command k owner command) owner command refusal, Err (call_errors.Heap refusal))
unfolding kept_call
kept_call-refused met k owner command refusal room answer = rw (room, answer) refl

-- The same, of what the steps of a call made.

-- a recorder is its history and its limit
recorder_is : (r : RecorderState) (h : HistoryState) (n : ℕ) → r.history ≡ h → r.limit ≡ n → r ≡ record { history = h; limit = n }
recorder_is r h n history limit =
    let with_limit : ℕ → RecorderState = λ m. record { history = h; limit = m } in
    let with_history : HistoryState → RecorderState = λ g. record { history = g; limit = r.limit } in
    ap with_history history ∙ ap with_limit limit

pub call-full : {A : Type 0} (met : Met) (k : KeptState A) (owner : ℕ) (command : Command) → length k.recorder.history.calls ≡ k.recorder.limit
    → (k, Err call_errors.TraceFull) ≡ kept_call met k owner command
call-full met k owner command full = sym (kept_call-full met k owner command (full_refusal-full k full))

pub call-accepted : {A : Type 0} (met : Met) (k : KeptState A) (owner : ℕ) (command : Command) (reply : Reply) (one after : CollectorState A) (did : Did) (noted : RecorderState)
    → length k.recorder.history.calls < k.recorder.limit → Ok reply ≡ (heap_step k.collector.heap owner command).1
    → one ≡ with_heap k.collector (heap_step k.collector.heap owner command).0
    → after ≡ (increment met one).0 → did ≡ (increment met one).1
    → noted.history ≡ with_call k.recorder.history (record { owner = owner; command = command; answer = Ok reply }) → noted.limit ≡ k.recorder.limit
    → (record { collector = after; recorder = noted; last = did }, Ok reply) ≡ kept_call met k owner command
unfolding kept_increment
call-accepted met k owner command reply one after did noted room answer state leads does history limit =
    let is = kept_call-accepted met k owner command reply (full_refusal-room k room) (sym answer) in
    let call : Call = record { owner = owner; command = command; answer = Ok reply } in
    let whole : noted ≡ record { history = with_call k.recorder.history call; limit = k.recorder.limit } = recorder_is noted (with_call k.recorder.history call) k.recorder.limit history limit in
    cc

pub call-refused : {A : Type 0} (met : Met) (k : KeptState A) (owner : ℕ) (command : Command) (refusal : Refusal) (one : CollectorState A) (noted : RecorderState)
    → length k.recorder.history.calls < k.recorder.limit → Err refusal ≡ (heap_step k.collector.heap owner command).1
    → one ≡ with_heap k.collector (heap_step k.collector.heap owner command).0 → is_limit refusal ≡ false
    → noted.history ≡ with_call k.recorder.history (record { owner = owner; command = command; answer = Err refusal }) → noted.limit ≡ k.recorder.limit
    → (record { collector = one; recorder = noted; last = k.last }, Err (call_errors.Heap refusal)) ≡ kept_call met k owner command
call-refused met k owner command refusal one noted room answer state limited history limit =
    let is = kept_call-refused met k owner command refusal (full_refusal-room k room) (sym answer) in
    let which : refused_where (is_limit refusal) (with_command k owner command) owner command refusal ≡ with_noted (with_command k owner command) owner command (Err refusal) =
    ap (λ b. refused_where b (with_command k owner command) owner command refusal) limited in
    let call : Call = record { owner = owner; command = command; answer = Err refusal } in
    let whole : noted ≡ record { history = with_call k.recorder.history call; limit = k.recorder.limit } = recorder_is noted (with_call k.recorder.history call) k.recorder.limit history limit in
    cc

pub call-limited : {A : Type 0} (met : Met) (k : KeptState A) (owner : ℕ) (command : Command) (refusal : Refusal) (one : CollectorState A)
    → length k.recorder.history.calls < k.recorder.limit → Err refusal ≡ (heap_step k.collector.heap owner command).1
    → one ≡ with_heap k.collector (heap_step k.collector.heap owner command).0 → is_limit refusal ≡ true
    → (record { collector = one; recorder = k.recorder; last = k.last }, Err (call_errors.Heap refusal)) ≡ kept_call met k owner command
call-limited met k owner command refusal one room answer state limited =
    let is = kept_call-refused met k owner command refusal (full_refusal-room k room) (sym answer) in
    let which : refused_where (is_limit refusal) (with_command k owner command) owner command refusal ≡ with_command k owner command =
    ap (λ b. refused_where b (with_command k owner command) owner command refusal) limited in
    cc

-- a refused call, whether it is noted or not
pub call-unless : {A : Type 0} (met : Met) (k : KeptState A) (owner : ℕ) (command : Command) (refusal : Refusal) (one : CollectorState A) (noted : RecorderState)
    → length k.recorder.history.calls < k.recorder.limit → Err refusal ≡ (heap_step k.collector.heap owner command).1
    → one ≡ with_heap k.collector (heap_step k.collector.heap owner command).0
    → noted.history ≡ noted_unless (is_limit refusal) k.recorder.history (record { owner = owner; command = command; answer = Err refusal }) → noted.limit ≡ k.recorder.limit
    → (record { collector = one; recorder = noted; last = k.last }, Err (call_errors.Heap refusal)) ≡ kept_call met k owner command
call-unless {A} met k owner command refusal one noted room answer state history limit = by_test (is_limit refusal) refl history
  where
    call : Call
    call = record { owner = owner; command = command; answer = Err refusal }

    with_recorder : RecorderState → KeptState A × Result Reply CallError
    with_recorder r = (record { collector = one; recorder = r; last = k.last }, Err (call_errors.Heap refusal))

    by_test : (b : Bool) → is_limit refusal ≡ b → noted.history ≡ noted_unless b k.recorder.history call → with_recorder noted ≡ kept_call met k owner command
    by_test true limited same =
        ap with_recorder (recorder_is noted k.recorder.history k.recorder.limit same limit) ∙ call-limited met k owner command refusal one room answer state limited
    by_test false kept grown = call-refused met k owner command refusal one noted room answer state kept grown limit

-- What an accepted call's increment folds, and where there is none.

pub meets-accepted : {A : Type 0} (met : Met) (k : KeptState A) (owner : ℕ) (command : Command) (one : CollectorState A)
    → one ≡ with_heap k.collector (heap_step k.collector.heap owner command).0 → Meets met one → CallMeets met k owner command
unfolding CallMeets
meets-accepted met k owner command one state meets room accepted = subst (Meets met) state meets

pub meets-full : {A : Type 0} (met : Met) (k : KeptState A) (owner : ℕ) (command : Command) → length k.recorder.history.calls ≡ k.recorder.limit → CallMeets met k owner command
unfolding CallMeets
meets-full met k owner command full room accepted = absurd (cc (room, full_refusal-full k full))

pub meets-refused : {A : Type 0} (met : Met) (k : KeptState A) (owner : ℕ) (command : Command) (refusal : Refusal) → Err refusal ≡ (heap_step k.collector.heap owner command).1
    → CallMeets met k owner command
unfolding CallMeets
meets-refused met k owner command refusal answer room accepted =
    let ok = subst (λ (x : Result Reply Refusal). is_ok x ≡ true) (sym answer) accepted in
    absurd (cc)

pub meets-follows : {A : Type 0} (met : Met) (k : KeptState A) (owner : ℕ) (command : Command) (reply : Reply) → length k.recorder.history.calls < k.recorder.limit
    → (heap_step k.collector.heap owner command).1 ≡ Ok reply → CallMeets met k owner command
    → Meets met (with_heap k.collector (heap_step k.collector.heap owner command).0)
unfolding CallMeets
meets-follows met k owner command reply room told meets =
    let accepted : is_ok (heap_step k.collector.heap owner command).1 ≡ true = subst (λ (x : Result Reply Refusal). is_ok x ≡ true) (sym told) refl in
    meets (full_refusal-room k room) accepted

-- An accepted call's increment is a run from the heap that was given the command.
pub collected-accepted : {A : Type 0} (B : Type 0) (k : KeptState A) (owner : ℕ) (command : Command) (one after : CollectorState A)
    → one ≡ with_heap k.collector (heap_step k.collector.heap owner command).0
    → IsCollected B (most_units one.config.replicators one.heap) one.heap after.heap
    → IsCollected B (most_units k.collector.config.replicators (heap_step k.collector.heap owner command).0) (heap_step k.collector.heap owner command).0 after.heap
collected-accepted {A} B k owner command one after state collected =
    subst (λ (s : CollectorState A). IsCollected B (most_units s.config.replicators s.heap) s.heap after.heap) state collected

-- A new heap stands for the replay of a history without a call.
pub IsKept-new : (recorder : RecorderState) (h : HeapState) (owners slots limit : ℕ) → recorder ≡ record { history = empty_history owners slots; limit = limit }
    → IsLegal (empty_history owners slots) → StandsFor h.mutators (empty_plain owners slots) → IsKept recorder.history h
IsKept-new recorder h owners slots limit is legal stands =
    let history : recorder.history ≡ empty_history owners slots = ap (λ (r : RecorderState). r.history) is in
    record { legal = subst IsLegal (sym history) legal; stands = subst (λ (x : HistoryState). StandsFor h.mutators (replay x)) (sym history) stands }

-- Each end of a call, in full.

pub ends-accepted : {A : Type 0} (met : Met) (k : KeptState A) (owner : ℕ) (command : Command) (reply : Reply) → length k.recorder.history.calls < k.recorder.limit
    → (heap_step k.collector.heap owner command).1 ≡ Ok reply
    → kept_call met k owner command
    ≡ (with_noted (record k { collector = (increment met (with_heap k.collector (heap_step k.collector.heap owner command).0)).0; last = (increment met (with_heap k.collector (heap_step k.collector.heap owner command).0)).1 }) owner command (Ok reply), Ok reply)
ends-accepted {A} met k owner command reply room told =
    let after : CollectorState A = with_heap k.collector (heap_step k.collector.heap owner command).0 in
    let call : Call = record { owner = owner; command = command; answer = Ok reply } in
    let noted : RecorderState = record { history = with_call k.recorder.history call; limit = k.recorder.limit } in
    sym (call-accepted met k owner command reply after (increment met after).0 (increment met after).1 noted room (sym told) refl refl refl refl refl)

pub ends-refused : {A : Type 0} (met : Met) (k : KeptState A) (owner : ℕ) (command : Command) (refusal : Refusal) → length k.recorder.history.calls < k.recorder.limit
    → (heap_step k.collector.heap owner command).1 ≡ Err refusal → (heap_step k.collector.heap owner command).0 ≡ k.collector.heap → is_limit refusal ≡ false
    → kept_call met k owner command ≡ (with_noted k owner command (Err refusal), Err (call_errors.Heap refusal))
ends-refused met k owner command refusal room told same limited =
    let call : Call = record { owner = owner; command = command; answer = Err refusal } in
    let noted : RecorderState = record { history = with_call k.recorder.history call; limit = k.recorder.limit } in
    sym (call-refused met k owner command refusal k.collector noted room (sym told) (ap (with_heap k.collector) (sym same)) limited refl refl)

pub ends-limited : {A : Type 0} (met : Met) (k : KeptState A) (owner : ℕ) (command : Command) (refusal : Refusal) → length k.recorder.history.calls < k.recorder.limit
    → (heap_step k.collector.heap owner command).1 ≡ Err refusal → (heap_step k.collector.heap owner command).0 ≡ k.collector.heap → is_limit refusal ≡ true
    → kept_call met k owner command ≡ (k, Err (call_errors.Heap refusal))
ends-limited met k owner command refusal room told same limited =
    sym (call-limited met k owner command refusal k.collector room (sym told) (ap (with_heap k.collector) (sym same)) limited)
