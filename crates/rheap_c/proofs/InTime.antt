-- Calls within the bounds of a pace find room, and what is told where a call finds none.
use Rattle.std.proofs.Common.{◌≡◌, ◌⊎◌, inl, inr, ℕ, zero, suc, ◌+◌, ◌<◌, ◌≤◌, ℤ, Bool, true, false, List, [], ◌∷◌, length, map, Option, Some, None, Result, Ok, Err, refl, sym, ap, subst, ◌∙◌, arith}
use Rattle.std.specs.Prelude.{All, nat_lt, ◌&&◌, if◌then◌else◌}
use Rattle.std.proofs.lemmas.List.Elements.{All-cons, All-head, All-nil, All-tail}
use Rattle.std.proofs.lemmas.Bool.{true≢false}
use Rattle.std.proofs.lemmas.Option.{same_Some}
use Rattle.rh_layout.specs.declared.command.Command.{Command}
use Rattle.rh_layout.specs.declared.command.RootId.{RootId}
use Rattle.rh_layout.specs.Refusal.{is_limit, rank_of}
use Rattle.rh_layout.specs.Refusing.{first_of}
use Rattle.rh_layout.specs.declared.command.Command.TheVariants.{Load, Copy, Same}
use Rattle.rh_layout.specs.declared.command.Reply.{Reply}
use Rattle.rh_layout.specs.declared.refusal.Refusal.{Refusal}
use Rattle.rh_layout.specs.declared.refusal.Refusal.TheVariants.{NoRoot, NotYours, NotObject, NoField, RawField, IntRange, FieldsRange, SpaceFull, LogFull, NumbersSpent}
use Rattle.rh_model.specs.Plain.{PlainHeap}
use Rattle.rh_mutator.specs.declared.config.Config.{Config}
use Rattle.rh_mutator.specs.LoadingAll.{field_loads, number_told}
use Rattle.rh_mutator.specs.Mutator.{MutatorState, graph_of}
use Rattle.rh_mutator.specs.StoringAll.{first_refusal, number_stores}
use Rattle.rh_mutator.specs.Texts.{fields_of_bytes}
use Rattle.rh_mutator.specs.lemmas.Limits.{IsNoLimit}
use Rattle.rh_core.specs.Heap.{IsWellFormed}
use Rattle.rh_core.specs.runs.Progress.{words_made}
use Rattle.rh_pace.specs.declared.pace.Pace.{Pace}
use Rattle.rh_pace.specs.declared.errors.EpochsSpent.{EpochsSpent}
use Rattle.rh_core.specs.declared.outcomes.Flipped.{Flipped}
use Rattle.rh_pace.specs.Collecting.{collect_step, insist_step, wants_room}
use Rattle.rh_pace.specs.InTime.{IsInTime, StayWithin, StaysWithin, paced_after}
use Rattle.rh_pace.specs.KeptUp.{IsKept, IsPaced}
use Rattle.rh_pace.specs.Pace.{KeepsUp, lag_of}
use Rattle.rh_pace.specs.Paced.{PacedState, paced_step, with_increment}
use Rattle.rh_pace.specs.Reaching.{AreEpochsSpent}
use Rattle.rh_pace.proofs.kept_up.Laws.{StepLaws}
use Rattle.rh_pace.proofs.kept_up.PacedSteps.{IsPaced-paced_heap, IsPaced-paced_step, IsPaced-with_increment, IsReady-paced, IsWellFormed-paced_step, IsWellFormed-with_increment}
use Rattle.rh_pace.proofs.kept_up.Collections.{IsPaced-collect_step, IsWellFormed-collect_step}
use Rattle.rh_pace.proofs.kept_up.Room.{TakesNone-collect_step, pace-collect_step}
use Rattle.rh_pace.proofs.in_time.Calls.{IsInTime-paced_heap, IsInTime-paced_step}
use Rattle.rh_pace.proofs.in_time.Collected.{IsInTime-collect_step, IsInTime-with_increment, insisted-in_time}
use Rattle.rh_pace.proofs.in_time.Ends.{ends_of}
use Rattle.rh_pace.proofs.in_time.Epochs.{config-paced_step, pace-paced_step}
use Rattle.rh_pace.proofs.in_time.Lists.{config-after_increment}
use Rattle.rh_pace.proofs.in_time.Room.{full-paced_step, room-paced_step}
use Rattle.rh_pace.proofs.StoredInTime.{asked-no_limit, full-places, unfull-in_time}
use Rattle.rheap_c.specs.Collected.{collect_status}
use Rattle.rheap_c.specs.Opened.{IsNew, IsOpened, Opens, opened}
use Rattle.rheap_c.specs.Read.{count_in, count_of_reply, count_status, field_answer, graph_in, peek_answer, root_answer}
use Rattle.rheap_c.specs.Rows.{after_row, after_unless, byte_in, read_into, ready_for, row_refusal, row_status}
use Rattle.rheap_c.specs.Room.{AlwaysFindRoom, AlwaysFindSpace, FindRoomIfFit, FindsRoom, RowFitsAt, CallStaysWithin, CallsStayWithin, CollectsWithin, InsistsOnNothing, IsCallBounded, RowFits, RowStaysWithin}
use Rattle.rheap_c.specs.Runs.{Answer, AreMade, Call, IsMade, after_call, answer_to, answers_to, command_of, doing, is_limit_status, with_numbers, with_read, with_text}
use Rattle.rheap_c.specs.Runs.Call.{Does, Loads, Compares, InsistsOn, CollectsNow, IncrementsNow, Peeks, ReadsField, ReadsRoot, Counts, TellsNumbers, StoresInts, InsistsOnInts, LoadsInts, LoadsText}
use Rattle.rheap_c.specs.Told.{status_of}
use Rattle.rheap_c.specs.declared.open_fault.OpenFault.{OpenFault}
use Rattle.rheap_c.proofs.Readings.{field_answer-load, peek_answer-load, root_answer-copy}
use Rattle.rheap_c.proofs.Refused.{full_told}
use Rattle.rheap_c.proofs.Rows.{is_limit_status-status_of, ready-either}
use Rattle.rheap_c.proofs.Runs.{AreMade-run, IsMade-after, IsMade-answer}

-- A status that says that there is no room.
abbrev pub IsFullStatus : ℕ → Type 0
IsFullStatus status = (status ≡ 8) ⊎ (status ≡ 9)

pub full_status-wants : (told : Result Reply Refusal) → IsFullStatus (status_of told) → wants_room told ≡ true
full_status-wants (Ok reply) (inl e) = absurd (omega (arith, e))
full_status-wants (Ok reply) (inr e) = absurd (omega (arith, e))
full_status-wants (Err NoRoot) (inl e) = absurd (omega (arith, e))
full_status-wants (Err NoRoot) (inr e) = absurd (omega (arith, e))
full_status-wants (Err NotYours) (inl e) = absurd (omega (arith, e))
full_status-wants (Err NotYours) (inr e) = absurd (omega (arith, e))
full_status-wants (Err NotObject) (inl e) = absurd (omega (arith, e))
full_status-wants (Err NotObject) (inr e) = absurd (omega (arith, e))
full_status-wants (Err NoField) (inl e) = absurd (omega (arith, e))
full_status-wants (Err NoField) (inr e) = absurd (omega (arith, e))
full_status-wants (Err RawField) (inl e) = absurd (omega (arith, e))
full_status-wants (Err RawField) (inr e) = absurd (omega (arith, e))
full_status-wants (Err IntRange) (inl e) = absurd (omega (arith, e))
full_status-wants (Err IntRange) (inr e) = absurd (omega (arith, e))
full_status-wants (Err FieldsRange) (inl e) = absurd (omega (arith, e))
full_status-wants (Err FieldsRange) (inr e) = absurd (omega (arith, e))
full_status-wants (Err (SpaceFull need free)) e = refl
full_status-wants (Err LogFull) e = refl
full_status-wants (Err NumbersSpent) (inl e) = absurd (omega (arith, e))
full_status-wants (Err NumbersSpent) (inr e) = absurd (omega (arith, e))

zero-unfull : IsFullStatus 0 → ⊥
zero-unfull (inl e) = absurd (omega (arith, e))
zero-unfull (inr e) = absurd (omega (arith, e))

collect_status-unfull : (told : Result Flipped EpochsSpent) → IsFullStatus (collect_status told) → ⊥
collect_status-unfull (Ok flipped) e = zero-unfull e
collect_status-unfull (Err spent) (inl e) = absurd (omega (arith, e))
collect_status-unfull (Err spent) (inr e) = absurd (omega (arith, e))

not_object-unfull : IsFullStatus 3 → ⊥
not_object-unfull (inl e) = absurd (omega (arith, e))
not_object-unfull (inr e) = absurd (omega (arith, e))

count_of_reply-unfull : (reply : Reply) → IsFullStatus (count_status (count_of_reply reply)) → ⊥
count_of_reply-unfull Reply.Done e = not_object-unfull e
count_of_reply-unfull Reply.Nil e = not_object-unfull e
count_of_reply-unfull (Reply.Int n) e = not_object-unfull e
count_of_reply-unfull (Reply.Object fields) e = zero-unfull e
count_of_reply-unfull (Reply.Raw fields) e = zero-unfull e
count_of_reply-unfull (Reply.Same equal) e = not_object-unfull e

count-wants : (told : Result Reply Refusal) → IsFullStatus (count_status (count_in told)) → wants_room told ≡ true
count-wants (Ok reply) e = absurd (count_of_reply-unfull reply e)
count-wants (Err why) e = full_status-wants (Err why) e

count-full : (told : Result Reply Refusal) → 8 ≡ count_status (count_in told) → 8 ≡ status_of told
count-full (Ok reply) e = absurd (count_of_reply-unfull reply (inl (sym e)))
count-full (Err why) e = e

-- Of a row of numbers such a status is that of a full log.
full_status-limit : (status : ℕ) → IsFullStatus status → is_limit_status status ≡ true
full_status-limit status (inl e) = ap is_limit_status e
full_status-limit status (inr e) = ap is_limit_status e

full_status-asked : (why : Refusal) → is_limit why ≡ false → IsFullStatus (rank_of why) → ⊥
full_status-asked why none full =
    true≢false (sym (full_status-limit (rank_of why) full) ∙ is_limit_status-status_of (Err why) ∙ none)

abbrev log_limit : Bool → Bool → Option Refusal
log_limit full spent = if full then Some LogFull else if spent then Some NumbersSpent else None

row-full : (s : PacedState) (owner : ℕ) (object : RootId) (from : ℕ) (numbers : List ℤ)
    → IsFullStatus (row_status (row_refusal s owner object from numbers)) → row_refusal s owner object from numbers ≡ Some LogFull
row-full s owner object from numbers =
    let m : MutatorState = s.heap.mutators in
    by (first_refusal (graph_of m) (number_stores owner object from numbers)) (m.cycle && nat_lt m.log.limit (length m.log.entries + length numbers))
    (nat_lt m.log.last_number (m.log.number + length numbers)) (asked-no_limit (graph_of m) (number_stores owner object from numbers))
  where
    by : (asked : Option Refusal) (full spent : Bool) → IsNoLimit asked → IsFullStatus (row_status (first_of asked (log_limit full spent)))
        → first_of asked (log_limit full spent) ≡ Some LogFull
    by (Some why) full spent none is = absurd (full_status-asked why none is)
    by None true spent none is = refl
    by None false true none (inl e) = absurd (omega (arith, e))
    by None false true none (inr e) = absurd (omega (arith, e))
    by None false false none is = absurd (zero-unfull is)

row-spaced : (s : PacedState) (owner : ℕ) (object : RootId) (from : ℕ) (numbers : List ℤ) → 8 ≡ row_status (row_refusal s owner object from numbers) → ⊥
row-spaced s owner object from numbers status =
    let nine = ap row_status (row-full s owner object from numbers (inl (sym status))) in omega (arith, status, nine)

-- a row or a text that is read has no such status
read-unfull : {X : Type 0} (tell : ℕ → List X → ℕ → Answer) → ((status : ℕ) (xs : List X) (count : ℕ) → (tell status xs count).status ≡ status)
    → (r : Option Refusal) (before : List X) (read : List X × ℕ) → IsNoLimit r → IsFullStatus (with_read tell r before read).status → ⊥
read-unfull tell is None before read none full = zero-unfull (subst IsFullStatus (is 0 read.0 read.1) full)
read-unfull tell is (Some why) before read none full = full_status-asked why none (subst IsFullStatus (is (rank_of why) before 0) full)

loads-unfull : (s : PacedState) (owner : ℕ) (object : RootId) (from : ℕ) (before : List ℤ)
    → IsFullStatus (answer_to s (LoadsInts owner object from before)).status → ⊥
loads-unfull s owner object from before =
    read-unfull with_numbers (λ status xs count. refl) (first_refusal (graph_in s) (field_loads owner object from (length before))) before
    (read_into (λ f. number_told (paced_step s owner (Load object object f)).1) from before)
    (asked-no_limit (graph_in s) (field_loads owner object from (length before)))

text-unfull : (s : PacedState) (owner : ℕ) (object : RootId) (from : ℕ) (before : List ℕ)
    → IsFullStatus (answer_to s (LoadsText owner object from before)).status → ⊥
text-unfull s owner object from before =
    read-unfull with_text (λ status xs count. refl) (first_refusal (graph_in s) (field_loads owner object from (fields_of_bytes (length before)))) before
    (read_into (byte_in (λ f. number_told (paced_step s owner (Load object object f)).1) from) 0 before)
    (asked-no_limit (graph_in s) (field_loads owner object from (fields_of_bytes (length before))))

-- What a heap keeps that collects in time, from call to call.
pub record KeepsTime (live biggest : ℕ) (s : PacedState) : Type 0 where
  pub well : IsWellFormed s.heap
  pub paced : IsPaced s
  pub in_time : IsInTime live biggest s

-- its log keeps more entries than the lag
abbrev pub HasLog : ℕ → PacedState → Type 0
HasLog biggest s = lag_of s.pace biggest < s.heap.mutators.config.log_limit

-- so it does where pace and configuration stay
pub HasLog-kept : (biggest : ℕ) (s t : PacedState) → t.pace ≡ s.pace → t.heap.mutators.config ≡ s.heap.mutators.config
    → HasLog biggest s → HasLog biggest t
HasLog-kept biggest s t pace config log =
    let lag = ap (λ (p : Pace). lag_of p biggest) pace in
    let limit = ap (λ (c : Config). c.log_limit) config in omega (arith, log, lag, limit)

-- a row has the places that it needs beyond the lag
abbrev pub HasRowPlaces : ℕ → PacedState → Call → Type 0
HasRowPlaces biggest s call = RowFits (lag_of s.pace biggest) s.heap.mutators.config.log_limit call

abbrev pub HasRowPlacesAt : ℕ → PacedState → List Call → ℕ → Type 0
HasRowPlacesAt biggest s calls i = RowFitsAt (lag_of s.pace biggest) s.heap.mutators.config.log_limit calls i

-- they have them where all do
pub RowFitsAt-all : (lag limit : ℕ) (calls : List Call) (i : ℕ) → All (RowFits lag limit) calls → RowFitsAt lag limit calls i
RowFitsAt-all lag limit [] i rows = tt
RowFitsAt-all lag limit (call ∷ calls) zero rows = All-head (RowFits lag limit) call calls rows
RowFitsAt-all lag limit (call ∷ calls) (suc i) rows = RowFitsAt-all lag limit calls i (All-tail (RowFits lag limit) call calls rows)

pub AlwaysFindRoom-fit : (biggest : ℕ) (s : PacedState) (calls : List Call) (answers : List Answer) → FindRoomIfFit biggest s calls answers
    → All (HasRowPlaces biggest s) calls → AlwaysFindRoom s calls answers
AlwaysFindRoom-fit biggest s calls answers room rows i a is full =
    room i a is (RowFitsAt-all (lag_of s.pace biggest) s.heap.mutators.config.log_limit calls i rows) full

-- calls go on having them where pace and configuration stay
abbrev pub SameSetting : PacedState → PacedState → Type 0
SameSetting s t = (t.pace ≡ s.pace) × (t.heap.mutators.config ≡ s.heap.mutators.config)

pub HasRowPlaces-kept : (biggest : ℕ) (s t : PacedState) → SameSetting s t → (calls : List Call) (i : ℕ)
    → HasRowPlacesAt biggest t calls i → HasRowPlacesAt biggest s calls i
HasRowPlaces-kept biggest s t setting calls i row =
    subst (λ (p : Pace). RowFitsAt (lag_of p biggest) s.heap.mutators.config.log_limit calls i) setting.0
    (subst (λ (c : Config). RowFitsAt (lag_of t.pace biggest) c.log_limit calls i) setting.1 row)

-- a call that insists has such a log
abbrev pub HasLogToInsist : ℕ → PacedState → Call → Type 0
HasLogToInsist biggest s (InsistsOn owner command) = HasLog biggest s
HasLogToInsist biggest s call = Unit {0}

pub HasLogToInsist-log : (biggest : ℕ) (s : PacedState) (call : Call) → HasLog biggest s → HasLogToInsist biggest s call
HasLogToInsist-log biggest s (Does owner command) log = tt
HasLogToInsist-log biggest s (Loads owner dst src field) log = tt
HasLogToInsist-log biggest s (Compares owner a b) log = tt
HasLogToInsist-log biggest s (InsistsOn owner command) log = log
HasLogToInsist-log biggest s CollectsNow log = tt
HasLogToInsist-log biggest s IncrementsNow log = tt
HasLogToInsist-log biggest s (Peeks owner src field) log = tt
HasLogToInsist-log biggest s (ReadsField root field) log = tt
HasLogToInsist-log biggest s (ReadsRoot root) log = tt
HasLogToInsist-log biggest s (Counts root) log = tt
HasLogToInsist-log biggest s TellsNumbers log = tt
HasLogToInsist-log biggest s (StoresInts owner object from numbers) log = tt
HasLogToInsist-log biggest s (InsistsOnInts owner object from numbers) log = tt
HasLogToInsist-log biggest s (LoadsInts owner object from before) log = tt
HasLogToInsist-log biggest s (LoadsText owner object from before) log = tt

HasLogToInsist-nothing : (biggest : ℕ) (s : PacedState) (call : Call) → InsistsOnNothing call → HasLogToInsist biggest s call
HasLogToInsist-nothing biggest s (Does owner command) nothing = tt
HasLogToInsist-nothing biggest s (Loads owner dst src field) nothing = tt
HasLogToInsist-nothing biggest s (Compares owner a b) nothing = tt
HasLogToInsist-nothing biggest s (InsistsOn owner command) nothing = absurd nothing
HasLogToInsist-nothing biggest s CollectsNow nothing = tt
HasLogToInsist-nothing biggest s IncrementsNow nothing = tt
HasLogToInsist-nothing biggest s (Peeks owner src field) nothing = tt
HasLogToInsist-nothing biggest s (ReadsField root field) nothing = tt
HasLogToInsist-nothing biggest s (ReadsRoot root) nothing = tt
HasLogToInsist-nothing biggest s (Counts root) nothing = tt
HasLogToInsist-nothing biggest s TellsNumbers nothing = tt
HasLogToInsist-nothing biggest s (StoresInts owner object from numbers) nothing = tt
HasLogToInsist-nothing biggest s (InsistsOnInts owner object from numbers) nothing = absurd nothing
HasLogToInsist-nothing biggest s (LoadsInts owner object from before) nothing = tt
HasLogToInsist-nothing biggest s (LoadsText owner object from before) nothing = tt

-- A row that is insisted on has no such status.
abbrev FitsRow : ℕ → PacedState → Call → Type 0
FitsRow biggest s (InsistsOnInts owner object from numbers) = IsFullStatus (answer_to s (InsistsOnInts owner object from numbers)).status → ⊥
FitsRow biggest s call = HasRowPlaces biggest s call

insisted_row-unfull : (s : PacedState) (owner : ℕ) (object : RootId) (from : ℕ) (numbers : List ℤ) (new : Option PacedState) (a : Answer)
    → IsMade (Some s) new (InsistsOnInts owner object from numbers) a → IsFullStatus (answer_to s (InsistsOnInts owner object from numbers)).status → ⊥
insisted_row-unfull s owner object from numbers new a made (inl eight) =
    row-spaced (ready_for s owner object from numbers) owner object from numbers (sym eight)
insisted_row-unfull s owner object from numbers new a made (inr nine) =
    made.0.0 (ap (λ (b : Answer). b.status) (IsMade-answer s new (InsistsOnInts owner object from numbers) a made) ∙ nine)

FitsRow-made : (biggest : ℕ) (s : PacedState) (new : Option PacedState) (call : Call) (a : Answer) → IsMade (Some s) new call a
    → HasRowPlaces biggest s call → FitsRow biggest s call
FitsRow-made biggest s new (Does owner command) a made row = row
FitsRow-made biggest s new (Loads owner dst src field) a made row = row
FitsRow-made biggest s new (Compares owner r q) a made row = row
FitsRow-made biggest s new (InsistsOn owner command) a made row = row
FitsRow-made biggest s new CollectsNow a made row = row
FitsRow-made biggest s new IncrementsNow a made row = row
FitsRow-made biggest s new (Peeks owner src field) a made row = row
FitsRow-made biggest s new (ReadsField root field) a made row = row
FitsRow-made biggest s new (ReadsRoot root) a made row = row
FitsRow-made biggest s new (Counts root) a made row = row
FitsRow-made biggest s new TellsNumbers a made row = row
FitsRow-made biggest s new (StoresInts owner object from numbers) a made row = row
FitsRow-made biggest s new (InsistsOnInts owner object from numbers) a made row = insisted_row-unfull s owner object from numbers new a made
FitsRow-made biggest s new (LoadsInts owner object from before) a made row = row
FitsRow-made biggest s new (LoadsText owner object from before) a made row = row

-- A list of commands keeps the setting.
paced_after-setting : (row : List (ℕ × Command)) (s : PacedState) → SameSetting s (paced_after s row)
paced_after-setting [] s = (refl, refl)
paced_after-setting (c ∷ rest) s =
    let later = paced_after-setting rest (paced_step s c.0 c.1).0 in
    (later.0 ∙ pace-paced_step s c.0 c.1, later.1 ∙ config-paced_step s c.0 c.1)

after_unless-setting : (r : Option Refusal) (row : List (ℕ × Command)) (s : PacedState) → SameSetting s (after_unless r s row)
after_unless-setting None row s = paced_after-setting row s
after_unless-setting (Some why) row s = (refl, refl)

after_row-setting : (s : PacedState) (owner : ℕ) (object : RootId) (from : ℕ) (numbers : List ℤ) → SameSetting s (after_row s owner object from numbers)
after_row-setting s owner object from numbers =
    after_unless-setting (row_refusal s owner object from numbers) (number_stores owner object from numbers) s

-- A call makes no object of more words than the biggest.
abbrev pub MakesAtMost : ℕ → Option (ℕ × Command) → Type 0
MakesAtMost biggest None = Unit {0}
MakesAtMost biggest (Some c) = words_made c.1 ≤ biggest

CallMakesAtMost-within : (live biggest : ℕ) (s : PacedState) (call : Call) → CallStaysWithin live biggest s call → MakesAtMost biggest (command_of call)
CallMakesAtMost-within live biggest s (Does owner command) within = within.words
CallMakesAtMost-within live biggest s (Loads owner dst src field) within = within.words
CallMakesAtMost-within live biggest s (Compares owner a b) within = within.words
CallMakesAtMost-within live biggest s (InsistsOn owner command) within = within.words
CallMakesAtMost-within live biggest s CollectsNow within = tt
CallMakesAtMost-within live biggest s IncrementsNow within = tt
CallMakesAtMost-within live biggest s (Peeks owner src field) within = tt
CallMakesAtMost-within live biggest s (ReadsField root field) within = tt
CallMakesAtMost-within live biggest s (ReadsRoot root) within = tt
CallMakesAtMost-within live biggest s (Counts root) within = tt
CallMakesAtMost-within live biggest s TellsNumbers within = tt
CallMakesAtMost-within live biggest s (StoresInts owner object from numbers) within = tt
CallMakesAtMost-within live biggest s (InsistsOnInts owner object from numbers) within = tt
CallMakesAtMost-within live biggest s (LoadsInts owner object from before) within = tt
CallMakesAtMost-within live biggest s (LoadsText owner object from before) within = tt

-- the same of what is bounded on a plain heap
pub CallMakesAtMost-bounded : (live biggest : ℕ) (p : PlainHeap) (call : Call) → IsCallBounded live biggest p call → MakesAtMost biggest (command_of call)
CallMakesAtMost-bounded live biggest p (Does owner command) bounded = bounded.0.0
CallMakesAtMost-bounded live biggest p (Loads owner dst src field) bounded = bounded.0.0
CallMakesAtMost-bounded live biggest p (Compares owner a b) bounded = bounded.0.0
CallMakesAtMost-bounded live biggest p (InsistsOn owner command) bounded = bounded.0.0
CallMakesAtMost-bounded live biggest p CollectsNow bounded = tt
CallMakesAtMost-bounded live biggest p IncrementsNow bounded = tt
CallMakesAtMost-bounded live biggest p (Peeks owner src field) bounded = tt
CallMakesAtMost-bounded live biggest p (ReadsField root field) bounded = tt
CallMakesAtMost-bounded live biggest p (ReadsRoot root) bounded = tt
CallMakesAtMost-bounded live biggest p (Counts root) bounded = tt
CallMakesAtMost-bounded live biggest p TellsNumbers bounded = tt
CallMakesAtMost-bounded live biggest p (StoresInts owner object from numbers) bounded = tt
CallMakesAtMost-bounded live biggest p (InsistsOnInts owner object from numbers) bounded = tt
CallMakesAtMost-bounded live biggest p (LoadsInts owner object from before) bounded = tt
CallMakesAtMost-bounded live biggest p (LoadsText owner object from before) bounded = tt

module _ (laws : StepLaws) (live biggest : ℕ) where
  module _ (s : PacedState) (keeps : KeepsTime live biggest s) where
    KeepsTime-paced_step : (owner : ℕ) (command : Command) → StaysWithin live biggest s owner command
        → KeepsTime live biggest (paced_step s owner command).0
    KeepsTime-paced_step owner command within = record {
      well = IsWellFormed-paced_step laws s owner keeps.well keeps.paced command;
      paced = IsPaced-paced_step laws s owner keeps.well keeps.paced command;
      in_time = IsInTime-paced_step laws live biggest s owner keeps.well keeps.paced keeps.in_time command within;
    }

  KeepsTime-paced_after : (row : List (ℕ × Command)) (s : PacedState) → KeepsTime live biggest s → StayWithin live biggest s row
      → KeepsTime live biggest (paced_after s row)
  KeepsTime-paced_after [] s keeps within = keeps
  KeepsTime-paced_after (c ∷ rest) s keeps within =
      KeepsTime-paced_after rest (paced_step s c.0 c.1).0 (KeepsTime-paced_step s keeps c.0 c.1 within.0) within.1

  KeepsTime-after_unless : (r : Option Refusal) (row : List (ℕ × Command)) (s : PacedState) → KeepsTime live biggest s
      → (r ≡ None → StayWithin live biggest s row) → KeepsTime live biggest (after_unless r s row)
  KeepsTime-after_unless None row s keeps within = KeepsTime-paced_after row s keeps (within refl)
  KeepsTime-after_unless (Some why) row s keeps within = keeps

  KeepsTime-after_row : (s : PacedState) → KeepsTime live biggest s → (owner : ℕ) (object : RootId) (from : ℕ) (numbers : List ℤ)
      → RowStaysWithin live biggest s owner object from numbers → KeepsTime live biggest (after_row s owner object from numbers)
  KeepsTime-after_row s keeps owner object from numbers within =
      KeepsTime-after_unless (row_refusal s owner object from numbers) (number_stores owner object from numbers) s keeps within

  module _ (s : PacedState) (keeps : KeepsTime live biggest s) where
    pub insisted-same : (owner : ℕ) (command : Command) → words_made command ≤ biggest → HasLog biggest s
        → insist_step s owner command ≡ paced_step s owner command
    insisted-same owner command fits log =
        insisted-in_time laws live biggest s keeps.well keeps.paced (ends_of keeps.in_time) owner command fits log

    KeepsTime-insist_step : (owner : ℕ) (command : Command) → StaysWithin live biggest s owner command → HasLog biggest s
        → KeepsTime live biggest (insist_step s owner command).0
    KeepsTime-insist_step owner command within log =
        subst (λ (r : PacedState × Result Reply Refusal). KeepsTime live biggest r.0) (sym (insisted-same owner command within.words log)) (KeepsTime-paced_step s keeps owner command within)

    KeepsTime-collect_step : CollectsWithin live s → KeepsTime live biggest (collect_step s).0
    KeepsTime-collect_step lives = record {
      well = IsWellFormed-collect_step laws s keeps.well keeps.paced;
      paced = IsPaced-collect_step laws s keeps.well keeps.paced;
      in_time = IsInTime-collect_step laws live biggest s keeps.well keeps.paced keeps.in_time lives;
    }

    KeepsTime-with_increment : KeepsTime live biggest (with_increment s)
    KeepsTime-with_increment =
        let ready = IsReady-paced s keeps.well keeps.paced in
        record {
          well = IsWellFormed-with_increment laws s ready;
          paced = IsPaced-with_increment laws s ready;
          in_time = IsInTime-with_increment laws live biggest s keeps.well keeps.paced keeps.in_time;
        }

    -- a row that fits beside the lag isn't refused for a full log
    unfull-row : (owner : ℕ) (object : RootId) (from : ℕ) (numbers : List ℤ) → HasRowPlaces biggest s (StoresInts owner object from numbers)
        → row_refusal s owner object from numbers ≡ Some LogFull → ⊥
    unfull-row owner object from numbers places is = unfull-in_time live biggest s keeps.well keeps.paced keeps.in_time owner object from numbers places is

    -- the heap that is ready for a row keeps time: it collects in a cycle alone
    pub KeepsTime-ready : (owner : ℕ) (object : RootId) (from : ℕ) (numbers : List ℤ) → KeepsTime live biggest (ready_for s owner object from numbers)
    KeepsTime-ready owner object from numbers = elim (ready-either s owner object from numbers) [
      | inl same ↦ subst (KeepsTime live biggest) (sym same) keeps
      | inr (full, collected) ↦
          let on = (full-places s.heap.mutators owner object from numbers full).0 in
          subst (KeepsTime live biggest) (sym collected) (KeepsTime-collect_step (λ off. absurd (true≢false (sym on ∙ off))))
    ]

    collect_step-setting : SameSetting s (collect_step s).0
    collect_step-setting = (pace-collect_step s, (TakesNone-collect_step laws s keeps.well keeps.paced).config)

    pub ready-setting : (owner : ℕ) (object : RootId) (from : ℕ) (numbers : List ℤ) → SameSetting s (ready_for s owner object from numbers)
    ready-setting owner object from numbers = elim (ready-either s owner object from numbers) [
      | inl same ↦ subst (SameSetting s) (sym same) (refl, refl)
      | inr (full, collected) ↦ subst (SameSetting s) (sym collected) collect_step-setting
    ]

    -- a call keeps time
    pub KeepsTime-after_call : (call : Call) → CallStaysWithin live biggest s call → HasLogToInsist biggest s call
        → KeepsTime live biggest (after_call s call)
    KeepsTime-after_call (Does owner command) within log = KeepsTime-paced_step s keeps owner command within
    KeepsTime-after_call (Loads owner dst src field) within log = KeepsTime-paced_step s keeps owner (Load dst src field) within
    KeepsTime-after_call (Compares owner a b) within log = KeepsTime-paced_step s keeps owner (Same a b) within
    KeepsTime-after_call (InsistsOn owner command) within log = KeepsTime-insist_step owner command within log
    KeepsTime-after_call CollectsNow within log = KeepsTime-collect_step within
    KeepsTime-after_call IncrementsNow within log = KeepsTime-with_increment
    KeepsTime-after_call (Peeks owner src field) within log = keeps
    KeepsTime-after_call (ReadsField root field) within log = keeps
    KeepsTime-after_call (ReadsRoot root) within log = keeps
    KeepsTime-after_call (Counts root) within log = keeps
    KeepsTime-after_call TellsNumbers within log = keeps
    KeepsTime-after_call (StoresInts owner object from numbers) within log = KeepsTime-after_row s keeps owner object from numbers within
    KeepsTime-after_call (InsistsOnInts owner object from numbers) within log =
        KeepsTime-after_row (ready_for s owner object from numbers) (KeepsTime-ready owner object from numbers) owner object from numbers within
    KeepsTime-after_call (LoadsInts owner object from before) within log = keeps
    KeepsTime-after_call (LoadsText owner object from before) within log = keeps

    -- and the setting
    paced_step-setting : (owner : ℕ) (command : Command) → SameSetting s (paced_step s owner command).0
    paced_step-setting owner command = (pace-paced_step s owner command, config-paced_step s owner command)

    pub after_call-setting : (call : Call) → MakesAtMost biggest (command_of call) → HasLogToInsist biggest s call → SameSetting s (after_call s call)
    after_call-setting (Does owner command) fits log = paced_step-setting owner command
    after_call-setting (Loads owner dst src field) fits log = paced_step-setting owner (Load dst src field)
    after_call-setting (Compares owner a b) fits log = paced_step-setting owner (Same a b)
    after_call-setting (InsistsOn owner command) fits log =
        subst (λ (r : PacedState × Result Reply Refusal). SameSetting s r.0) (sym (insisted-same owner command fits log)) (paced_step-setting owner command)
    after_call-setting CollectsNow fits log = collect_step-setting
    after_call-setting IncrementsNow fits log =
        (refl, config-after_increment laws s.pace.mark s.heap (record { well = keeps.well; kept = keeps.paced.kept_up }))
    after_call-setting (Peeks owner src field) fits log = (refl, refl)
    after_call-setting (ReadsField root field) fits log = (refl, refl)
    after_call-setting (ReadsRoot root) fits log = (refl, refl)
    after_call-setting (Counts root) fits log = (refl, refl)
    after_call-setting TellsNumbers fits log = (refl, refl)
    after_call-setting (StoresInts owner object from numbers) fits log = after_row-setting s owner object from numbers
    after_call-setting (InsistsOnInts owner object from numbers) fits log =
        let ready = ready-setting owner object from numbers in
        let stored = after_row-setting (ready_for s owner object from numbers) owner object from numbers in
        (stored.0 ∙ ready.0, stored.1 ∙ ready.1)
    after_call-setting (LoadsInts owner object from before) fits log = (refl, refl)
    after_call-setting (LoadsText owner object from before) fits log = (refl, refl)

    none-fits : 0 ≤ biggest
    none-fits = omega arith

    -- A call finds room, unless the epochs are spent.
    module _ (log : HasLog biggest s) where
      spent-told : (owner : ℕ) (command : Command) → words_made command ≤ biggest → (told : Result Reply Refusal)
          → told ≡ (paced_step s owner command).1 → wants_room told ≡ true → AreEpochsSpent s.heap
      spent-told owner command fits told is wants =
          elim (room-paced_step live biggest s keeps.well keeps.paced (ends_of keeps.in_time) owner command fits log) [
            | inl quiet ↦ absurd (true≢false (sym wants ∙ ap wants_room is ∙ quiet))
            | inr spent ↦ spent
          ]

      spent-answer_to : (call : Call) → MakesAtMost biggest (command_of call) → FitsRow biggest s call → IsFullStatus (answer_to s call).status → AreEpochsSpent s.heap
      spent-answer_to (Does owner command) fits row full =
          spent-told owner command fits _ refl (full_status-wants (paced_step s owner command).1 full)
      spent-answer_to (Loads owner dst src field) fits row full =
          spent-told owner (Load dst src field) none-fits _ refl (full_status-wants (paced_step s owner (Load dst src field)).1 full)
      spent-answer_to (Compares owner a b) fits row full =
          spent-told owner (Same a b) none-fits _ refl (full_status-wants (paced_step s owner (Same a b)).1 full)
      spent-answer_to (InsistsOn owner command) fits row full =
          spent-told owner command fits (insist_step s owner command).1
          (ap (λ (r : PacedState × Result Reply Refusal). r.1) (insisted-same owner command fits log))
          (full_status-wants (insist_step s owner command).1 full)
      spent-answer_to CollectsNow fits row full = absurd (collect_status-unfull (collect_step s).1 full)
      spent-answer_to IncrementsNow fits row full = absurd (zero-unfull full)
      spent-answer_to (Peeks owner src field) fits row full =
          spent-told owner (Load src src field) none-fits (peek_answer s owner src field) (peek_answer-load s owner src field) (full_status-wants _ full)
      spent-answer_to (ReadsField root field) fits row full =
          spent-told root.owner (Load root root field) none-fits (field_answer s root field) (field_answer-load s root field) (full_status-wants _ full)
      spent-answer_to (ReadsRoot root) fits row full =
          spent-told root.owner (Copy root root) none-fits (root_answer s root) (root_answer-copy s root) (full_status-wants _ full)
      spent-answer_to (Counts root) fits row full =
          spent-told root.owner (Copy root root) none-fits (root_answer s root) (root_answer-copy s root) (count-wants (root_answer s root) full)
      spent-answer_to TellsNumbers fits row full = absurd (zero-unfull full)
      spent-answer_to (StoresInts owner object from numbers) fits row full =
          absurd (unfull-row owner object from numbers row (row-full s owner object from numbers full))
      spent-answer_to (InsistsOnInts owner object from numbers) fits row full = absurd (row full)
      spent-answer_to (LoadsInts owner object from before) fits row full = absurd (loads-unfull s owner object from before full)
      spent-answer_to (LoadsText owner object from before) fits row full = absurd (text-unfull s owner object from before full)

      pub spent-made : (call : Call) (new : Option PacedState) (a : Answer) → IsMade (Some s) new call a → MakesAtMost biggest (command_of call)
          → HasRowPlaces biggest s call → IsFullStatus a.status → AreEpochsSpent s.heap
      spent-made call new a made fits row full =
          spent-answer_to call fits (FitsRow-made biggest s new call a made row)
          (subst (λ (b : Answer). IsFullStatus b.status) (IsMade-answer s new call a made) full)

    -- In the space it does whatever the log keeps, where it insists on nothing.
    no_space-told : (owner : ℕ) (command : Command) → words_made command ≤ biggest → (told : Result Reply Refusal)
        → told ≡ (paced_step s owner command).1 → 8 ≡ status_of told → AreEpochsSpent s.heap
    no_space-told owner command fits told is status =
        let full = full_told told status in
        full-paced_step live biggest s keeps.well keeps.paced (ends_of keeps.in_time) owner command fits full.0 full.1 (sym is ∙ full.2)

    no_space-answer_to : (call : Call) → CallStaysWithin live biggest s call → InsistsOnNothing call → 8 ≡ (answer_to s call).status → AreEpochsSpent s.heap
    no_space-answer_to (Does owner command) within nothing status = no_space-told owner command within.words _ refl status
    no_space-answer_to (Loads owner dst src field) within nothing status = no_space-told owner (Load dst src field) none-fits _ refl status
    no_space-answer_to (Compares owner a b) within nothing status = no_space-told owner (Same a b) none-fits _ refl status
    no_space-answer_to (InsistsOn owner command) within nothing status = absurd nothing
    no_space-answer_to CollectsNow within nothing status = absurd (collect_status-unfull (collect_step s).1 (inl (sym status)))
    no_space-answer_to IncrementsNow within nothing status = absurd (zero-unfull (inl (sym status)))
    no_space-answer_to (Peeks owner src field) within nothing status =
        no_space-told owner (Load src src field) none-fits (peek_answer s owner src field) (peek_answer-load s owner src field) status
    no_space-answer_to (ReadsField root field) within nothing status =
        no_space-told root.owner (Load root root field) none-fits (field_answer s root field) (field_answer-load s root field) status
    no_space-answer_to (ReadsRoot root) within nothing status =
        no_space-told root.owner (Copy root root) none-fits (root_answer s root) (root_answer-copy s root) status
    no_space-answer_to (Counts root) within nothing status =
        no_space-told root.owner (Copy root root) none-fits (root_answer s root) (root_answer-copy s root) (count-full (root_answer s root) status)
    no_space-answer_to TellsNumbers within nothing status = absurd (zero-unfull (inl (sym status)))
    no_space-answer_to (StoresInts owner object from numbers) within nothing status = absurd (row-spaced s owner object from numbers status)
    no_space-answer_to (InsistsOnInts owner object from numbers) within nothing status = absurd nothing
    no_space-answer_to (LoadsInts owner object from before) within nothing status = absurd (loads-unfull s owner object from before (inl (sym status)))
    no_space-answer_to (LoadsText owner object from before) within nothing status = absurd (text-unfull s owner object from before (inl (sym status)))

  -- so do calls, one after the other
  FindRoomIfFit-made : (calls : List Call) (s : PacedState) (new : Option PacedState) (answers : List Answer) → KeepsTime live biggest s → HasLog biggest s
      → CallsStayWithin live biggest s calls → AreMade (Some s) new calls answers → FindRoomIfFit biggest s calls answers
  FindRoomIfFit-made [] s new [] keeps log within made i a is row full = absurd (cc)
  FindRoomIfFit-made [] s new (b ∷ more) keeps log within made i a is row full = absurd made
  FindRoomIfFit-made (call ∷ calls) s new [] keeps log within made i a is row full = absurd made
  FindRoomIfFit-made (call ∷ calls) s new (b ∷ more) keeps log within (between, made, rest) zero a is row full =
      spent-made s keeps log call between b made (CallMakesAtMost-within live biggest s call within.0) row
      (subst (λ (x : Answer). IsFullStatus x.status) (sym (same_Some b a is)) full)
  FindRoomIfFit-made (call ∷ calls) s new (b ∷ more) keeps log within (between, made, rest) (suc i) a is row full =
      let t : PacedState = after_call s call in
      let insists = HasLogToInsist-log biggest s call log in
      let setting = after_call-setting s keeps call (CallMakesAtMost-within live biggest s call within.0) insists in
      FindRoomIfFit-made calls t new more (KeepsTime-after_call s keeps call within.0 insists) (HasLog-kept biggest s t setting.0 setting.1 log) within.1
      (subst (λ (c : Option PacedState). AreMade c new calls more) (IsMade-after s between call b made) rest)
      i a is (HasRowPlaces-kept biggest t s (sym setting.0, sym setting.1) calls i row) full

  AlwaysFindSpace-answers_to : (calls : List Call) (s : PacedState) → KeepsTime live biggest s → CallsStayWithin live biggest s calls → All InsistsOnNothing calls
      → AlwaysFindSpace s calls (answers_to s calls)
  AlwaysFindSpace-answers_to [] s keeps within nothing i a is full = absurd (cc)
  AlwaysFindSpace-answers_to (call ∷ calls) s keeps within nothing zero a is full =
      no_space-answer_to s keeps call within.0 (All-head InsistsOnNothing call calls nothing) (sym (ap (λ (b : Answer). b.status) (same_Some (answer_to s call) a is) ∙ full))
  AlwaysFindSpace-answers_to (call ∷ calls) s keeps within nothing (suc i) a is full =
      AlwaysFindSpace-answers_to calls (after_call s call)
      (KeepsTime-after_call s keeps call within.0 (HasLogToInsist-nothing biggest s call (All-head InsistsOnNothing call calls nothing)))
      within.1 (All-tail InsistsOnNothing call calls nothing) i a is full

  -- From a heap on that keeps time.
  pub FindsRoom-in_time : (s : PacedState) → IsKept s → IsInTime live biggest s → FindsRoom live biggest s
  FindsRoom-in_time s kept in_time new calls answers made within =
      let keeps : KeepsTime live biggest s = record { well = kept.0; paced = kept.1; in_time = in_time } in (
        (λ nothing. subst (AlwaysFindSpace s calls) (sym (AreMade-run s new calls answers made).1) (AlwaysFindSpace-answers_to calls s keeps within nothing)),
        (λ log. FindRoomIfFit-made calls s new answers keeps log within made),
      )

  -- From an open on.
  module _ (config : Config) (pace : Pace) (s : PacedState) (is_new : IsNew config pace s) (up : KeepsUp config.words live biggest config.ratio pace)
      (new : Option PacedState) (calls : List Call) (answers : List Answer) (made : AreMade (Some s) new calls answers) (within : CallsStayWithin live biggest s calls) where
    KeepsTime-new : KeepsTime live biggest s
    KeepsTime-new = record {
      well = subst (λ (t : PacedState). IsWellFormed t.heap) (sym is_new.made) (laws.new config is_new.sound);
      paced = subst IsPaced (sym is_new.made) (IsPaced-paced_heap laws config pace is_new.sound);
      in_time = subst (IsInTime live biggest) (sym is_new.made) (IsInTime-paced_heap live biggest config pace up);
    }

    pub FindRoomIfFit-new : HasLog biggest s → FindRoomIfFit biggest s calls answers
    FindRoomIfFit-new log = FindRoomIfFit-made calls s new answers KeepsTime-new log within made

    pub AlwaysFindSpace-new : All InsistsOnNothing calls → AlwaysFindSpace s calls answers
    AlwaysFindSpace-new nothing =
        subst (AlwaysFindSpace s calls) (sym (AreMade-run s new calls answers made).1) (AlwaysFindSpace-answers_to calls s KeepsTime-new within nothing)

-- what a new heap keeps of the lag
pub HasLog-new : (biggest : ℕ) (config : Config) (pace : Pace) (s : PacedState) → IsNew config pace s → lag_of pace biggest < config.log_limit
    → HasLog biggest s
HasLog-new biggest config pace s new log =
    subst (λ (t : PacedState). HasLog biggest t) (sym new.made) log

-- an open that leaves a heap has made it at a pace that fits
pub opened-new : (Fits : Pace → Type 0) (can : Type 0) (config : Pace → Config) (s : PacedState) (status : ℕ)
    → IsOpened (Opens Fits can config) None (Some s) status → (pace : Pace) × Fits pace × IsNew (config pace) pace s
opened-new Fits can config s status (end, ends, is, st) = by end ends is
  where
    by : (end : Result PacedState OpenFault) → Opens Fits can config end → Some s ≡ opened end → (pace : Pace) × Fits pace × IsNew (config pace) pace s
    by (Ok t) (inl none) is = absurd (let e = none.0 in cc)
    by (Ok t) (inr (can, pace, fits, new)) is = (pace, fits, subst (IsNew (config pace) pace) (sym (same_Some s t is)) new)
    by (Err why) ends is = absurd (cc)

-- commands within the bounds are calls within them
pub CallsStayWithin-doing : (live biggest : ℕ) (given : List (ℕ × Command)) (s : PacedState) → StayWithin live biggest s given
    → CallsStayWithin live biggest s (map doing given)
CallsStayWithin-doing live biggest [] s within = tt
CallsStayWithin-doing live biggest (c ∷ given) s within =
    (within.0, CallsStayWithin-doing live biggest given (paced_step s c.0 c.1).0 within.1)

-- and insist on nothing
pub InsistOnNothing-doing : (given : List (ℕ × Command)) → All InsistsOnNothing (map doing given)
InsistOnNothing-doing [] = All-nil InsistsOnNothing
InsistOnNothing-doing (c ∷ given) = All-cons InsistsOnNothing (doing c) (map doing given) tt (InsistOnNothing-doing given)

-- and are no rows
pub RowsFit-doing : (lag limit : ℕ) (given : List (ℕ × Command)) → All (RowFits lag limit) (map doing given)
RowsFit-doing lag limit [] = All-nil (RowFits lag limit)
RowsFit-doing lag limit (c ∷ given) = All-cons (RowFits lag limit) (doing c) (map doing given) tt (RowsFit-doing lag limit given)
