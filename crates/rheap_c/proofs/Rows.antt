-- What calls leave and tell that store or read whole numbers in fields in a row.
use Rattle.std.proofs.Common.{◌≡◌, ◌⊎◌, inl, inr, ℕ, zero, suc, ◌+◌, ◌-◌, ◌/◌, ◌%◌, ◌<◌, ◌≤◌, ℤ, pos, Bool, true, false, List, [], ◌∷◌, drop, length, Option, Some, None, Result, Ok, Err, refl, sym, ap, subst, ◌∙◌, arith}
use Rattle.std.specs.Prelude.{nat_lt, ◌&&◌, slice_index_or, if◌then◌else◌}
use Rattle.rh_layout.specs.declared.command.Command.{Command}
use Rattle.rh_layout.specs.declared.command.Command.TheVariants.{Load}
use Rattle.rh_layout.specs.declared.command.RootId.{RootId}
use Rattle.rh_layout.specs.declared.command.Reply.{Reply}
use Rattle.rh_layout.specs.declared.refusal.Refusal.{Refusal}
use Rattle.rh_layout.specs.declared.refusal.Refusal.TheVariants.{NoRoot, NotYours, NotObject, NoField, RawField, IntRange, FieldsRange, SpaceFull, LogFull, NumbersSpent}
use Rattle.rh_layout.specs.Refusal.{rank_of}
use Rattle.rh_layout.specs.Refusing.{first_of}
use Rattle.rh_model.specs.Plain.{PlainHeap}
use Rattle.rh_mutator.specs.Commands.{is_limit_answer}
use Rattle.rh_mutator.specs.LoadingAll.{AreLoaded, field_loads, number_told}
use Rattle.rh_mutator.specs.Mutator.{MutatorState, StandsFor}
use Rattle.rh_mutator.specs.StoringAll.{first_refusal, log_limit_for, number_stores}
use Rattle.rh_mutator.specs.Texts.{IsTextRead, byte_told, fields_of_bytes}
use Rattle.rh_mutator.specs.lemmas.Limits.{IsNoLimit, IsOnlyLimit}
use Rattle.rh_pace.specs.Collecting.{collect_step}
use Rattle.rh_pace.specs.Paced.{PacedState, paced_step}
use Rattle.rheap_c.specs.Read.{graph_in, peek_answer}
use Rattle.rheap_c.specs.Rows.{after_row, after_unless, byte_in, emptied_for, plain_refusal, plain_unless_refused, read_into, read_on, ready_for, row_refusal, row_status}
use Rattle.rheap_c.specs.Runs.{Answer, StoresAsPlain, answer_to, is_limit_status, plain_after_row, with_numbers, with_read, with_status, with_text}
use Rattle.rheap_c.specs.Runs.Call.{LoadsInts, LoadsText}
use Rattle.rheap_c.specs.Several.{AreStored, AreStoredInsisting, AreStoredUnless}
use Rattle.std.proofs.lemmas.Option.{same_Some}
use Rattle.rheap_c.specs.Told.{status_of}
use Rattle.rheap_c.proofs.Readings.{peek_answer-load}

-- Statuses.

-- a status is a limit's where the answer is
pub is_limit_status-status_of : (told : Result Reply Refusal)
    → is_limit_status (status_of told) ≡ is_limit_answer told
is_limit_status-status_of (Ok reply) = refl
is_limit_status-status_of (Err NoRoot) = refl
is_limit_status-status_of (Err NotYours) = refl
is_limit_status-status_of (Err NotObject) = refl
is_limit_status-status_of (Err NoField) = refl
is_limit_status-status_of (Err RawField) = refl
is_limit_status-status_of (Err IntRange) = refl
is_limit_status-status_of (Err FieldsRange) = refl
is_limit_status-status_of (Err (SpaceFull need free)) = refl
is_limit_status-status_of (Err LogFull) = refl
is_limit_status-status_of (Err NumbersSpent) = refl

-- the log refuses for its limits alone
pub log_limit_for-IsOnlyLimit : (m : MutatorState) (count : ℕ)
    → IsOnlyLimit (log_limit_for count m.cycle m.log)
log_limit_for-IsOnlyLimit m count =
    by (m.cycle && nat_lt m.log.limit (length m.log.entries + count))
    (nat_lt m.log.last_number (m.log.number + count))
  where
    by : (full spent : Bool)
        → IsOnlyLimit (if full then Some LogFull else if spent then Some NumbersSpent else None)
    by true spent = refl
    by false true = refl
    by false false = tt

-- Stores.

-- stores that are all done or not at all leave what the heap is after a row, and tell its status
pub AreStoredUnless-after : (r : Option Refusal) (old new : PacedState) (row : List (ℕ × Command))
    (status : ℕ) → AreStoredUnless r old new row status → new ≡ after_unless r old row
AreStoredUnless-after None old new row status (done, is) = done.state
AreStoredUnless-after (Some why) old new row status (same, is) = same

pub AreStoredUnless-status : (r : Option Refusal) (old new : PacedState) (row : List (ℕ × Command))
    (status : ℕ) → AreStoredUnless r old new row status → status ≡ row_status r
AreStoredUnless-status None old new row status (done, is) = is
AreStoredUnless-status (Some why) old new row status (same, is) = is

-- a heap collects where it was refused for a full log, and else stays
emptied-either : (r : Option Refusal) (s : PacedState)
    → (emptied_for r s ≡ s) ⊎ ((r ≡ Some LogFull) × (emptied_for r s ≡ (collect_step s).0))
emptied-either None s = inl refl
emptied-either (Some NoRoot) s = inl refl
emptied-either (Some NotYours) s = inl refl
emptied-either (Some NotObject) s = inl refl
emptied-either (Some NoField) s = inl refl
emptied-either (Some RawField) s = inl refl
emptied-either (Some IntRange) s = inl refl
emptied-either (Some FieldsRange) s = inl refl
emptied-either (Some (SpaceFull need free)) s = inl refl
emptied-either (Some LogFull) s = inr (refl, refl)
emptied-either (Some NumbersSpent) s = inl refl

module _ (old : PacedState) (owner : ℕ) (object : RootId) (from : ℕ) (numbers : List ℤ) where
  pub ready-either : (ready_for old owner object from numbers ≡ old)
      ⊎ ((row_refusal old owner object from numbers ≡ Some LogFull)
      × (ready_for old owner object from numbers ≡ (collect_step old).0))
  ready-either = emptied-either (row_refusal old owner object from numbers) old

  ready-other : (row_refusal old owner object from numbers ≡ Some LogFull → ⊥)
      → ready_for old owner object from numbers ≡ old
  ready-other other = elim ready-either [
    | inl same ↦ same
    | inr (full, collected) ↦ absurd (other full)
  ]

  ready-full : row_refusal old owner object from numbers ≡ Some LogFull
      → ready_for old owner object from numbers ≡ (collect_step old).0
  ready-full full = ap (λ r. emptied_for r old) full

  -- status 9 is that of a full log
  AreStored-unfull : (new : Option PacedState) (status : ℕ) → (status ≡ 9 → ⊥)
      → AreStored (Some old) new owner object from numbers status
      → row_refusal old owner object from numbers ≡ Some LogFull → ⊥
  AreStored-unfull new status not_full (after, is, stored) full =
      not_full (AreStoredUnless-status (row_refusal old owner object from numbers) old after
      (number_stores owner object from numbers) status stored ∙ ap row_status full)

  -- what is insisted on is stored by the heap that is ready for it
  pub AreStoredInsisting-ready : (new : Option PacedState) (status : ℕ)
      → AreStoredInsisting (Some old) new owner object from numbers status
      → AreStored (Some (ready_for old owner object from numbers)) new owner object from numbers
      status
  AreStoredInsisting-ready new status (not_full, inl stored) =
      subst (λ (s : PacedState). AreStored (Some s) new owner object from numbers status)
      (sym (ready-other (AreStored-unfull new status not_full stored))) stored
  AreStoredInsisting-ready new status (not_full, inr (full, collected, stored)) =
      subst (λ (s : PacedState). AreStored (Some s) new owner object from numbers status)
      (sym (ready-full full)) stored

  -- which stands for what the heap stood for
  pub AreStoredInsisting-stands : (new : Option PacedState) (status : ℕ) (p : PlainHeap)
      → AreStoredInsisting (Some old) new owner object from numbers status
      → StandsFor old.heap.mutators p
      → StandsFor (ready_for old owner object from numbers).heap.mutators p
  AreStoredInsisting-stands new status p (not_full, inl stored) stands =
      subst (λ (s : PacedState). StandsFor s.heap.mutators p)
      (sym (ready-other (AreStored-unfull new status not_full stored))) stands
  AreStoredInsisting-stands new status p (not_full, inr (full, collected, stored)) stands =
      subst (λ (s : PacedState). StandsFor s.heap.mutators p) (sym (ready-full full))
      (collected.stands p stands)

module _ (old : PacedState) (owner : ℕ) (object : RootId) (from : ℕ) (numbers : List ℤ) (why : Refusal) (is : row_refusal old owner object from numbers ≡ Some why) where
  pub refused-store : after_row old owner object from numbers ≡ old
  refused-store = ap (λ r. after_unless r old (number_stores owner object from numbers)) is

  pub refused-same : (why ≡ LogFull → ⊥) → after_row (ready_for old owner object from numbers) owner object from numbers ≡ old
  refused-same other =
      ap (λ (s : PacedState). after_row s owner object from numbers) (ready-other old owner object from numbers (λ full. other (same_Some why LogFull (sym is ∙ full))))
      ∙ refused-store

-- As a plain heap.
module _ (row : List (ℕ × Command)) (old new : PacedState) (p : PlainHeap) (a : Answer)
    (shape : a ≡ with_status a.status) (stands : StandsFor old.heap.mutators p) where
  abbrev pub RowPlainly : Type 0
  RowPlainly = StoresAsPlain (Some row) p a
      × StandsFor new.heap.mutators (plain_after_row (Some row) (is_limit_status a.status) p)

  -- what no limit refuses
  pub unlimited-row : (asked : Option Refusal) → asked ≡ plain_refusal p row
      → is_limit_status a.status ≡ false → a.status ≡ row_status asked
      → StandsFor new.heap.mutators (plain_unless_refused asked p row) → RowPlainly
  unlimited-row asked met unlimited is after = (
    inl (unlimited, shape ∙ ap with_status (is ∙ ap row_status met)),
    subst (λ b. StandsFor new.heap.mutators (plain_after_row (Some row) b p)) (sym unlimited)
        (subst (λ o. StandsFor new.heap.mutators (plain_unless_refused o p row)) met after),
  )

  -- a row tells as the plain heap does, and leaves a heap that stands for it
  pub AreStoredUnless-plain : (asked limit : Option Refusal) → IsNoLimit asked → IsOnlyLimit limit
      → asked ≡ plain_refusal p row → AreStoredUnless (first_of asked limit) old new row a.status
      → RowPlainly
  AreStoredUnless-plain (Some why) limit none only met (same, rank) =
      unlimited-row (Some why) met
      (ap is_limit_status rank ∙ is_limit_status-status_of (Err why) ∙ none) rank
      (subst (λ (s : PacedState). StandsFor s.heap.mutators p) (sym same) stands)
  AreStoredUnless-plain None None none only met (done, zero_is) =
      unlimited-row None met (ap is_limit_status zero_is) zero_is (done.stands p stands)
  AreStoredUnless-plain None (Some why) none only met (same, rank) =
      let limited : is_limit_status a.status ≡ true =
      ap is_limit_status rank ∙ is_limit_status-status_of (Err why) ∙ only in (
        inr (limited, sym met),
        subst (λ b. StandsFor new.heap.mutators (plain_after_row (Some row) b p)) (sym limited)
            (subst (λ (s : PacedState). StandsFor s.heap.mutators p) (sym same) stands),
      )

-- Readings.

-- So many items were read into a list, where these are there from one on.
record AreItemsRead (X : Type 0) (other : X) (item_at : ℕ → Option X) (from : ℕ)
    (before after : List X) (count : ℕ) : Type 0 where
  loaded : (i : ℕ) → i < count → item_at (from + i) ≡ Some (slice_index_or after i other)
  next : count < length before → item_at (from + count) ≡ None
  few : count ≤ length before
  rest : drop count after ≡ drop count before
  same_length : length after ≡ length before

module _ (X : Type 0) (other : X) (item_at : ℕ → Option X) where
  AreItemsRead-none : (from : ℕ) (before : List X) → item_at from ≡ None
      → AreItemsRead X other item_at from before before 0
  AreItemsRead-none from before none = record {
    loaded = λ i within. absurd (omega (arith, within));
    next = λ within. subst (λ f. item_at f ≡ None) (omega arith) none;
    few = omega arith;
    rest = refl;
    same_length = refl;
  }

  AreItemsRead-some : (from : ℕ) (x y : X) (rest more : List X) (count : ℕ)
      → item_at from ≡ Some y → AreItemsRead X other item_at (from + 1) rest more count
      → AreItemsRead X other item_at from (x ∷ rest) (y ∷ more) (suc count)
  AreItemsRead-some from x y rest more count some further = record {
    loaded = by;
    next = λ within. subst (λ f. item_at f ≡ None) (omega arith)
        (further.next (omega (arith, within)));
    few = let few = further.few in omega (arith, few);
    rest = further.rest;
    same_length = ap suc further.same_length;
  }
    where
      by : (i : ℕ) → i < suc count
          → item_at (from + i) ≡ Some (slice_index_or (y ∷ more) i other)
      by zero within = subst (λ f. item_at f ≡ Some y) (omega arith) some
      by (suc i) within =
          subst (λ f. item_at f ≡ Some (slice_index_or more i other)) (omega arith)
          (further.loaded i (omega (arith, within)))

  AreItemsRead-read_on : (from : ℕ) (x : X) (rest : List X) (further : List X × ℕ)
      → AreItemsRead X other item_at (from + 1) rest further.0 further.1 → (o : Option X)
      → item_at from ≡ o → AreItemsRead X other item_at from (x ∷ rest)
      (read_on o (x ∷ rest) further).0 (read_on o (x ∷ rest) further).1
  AreItemsRead-read_on from x rest further loaded None is = AreItemsRead-none from (x ∷ rest) is
  AreItemsRead-read_on from x rest further loaded (Some y) is =
      AreItemsRead-some from x y rest further.0 further.1 is loaded

  -- what is read into a list are these items
  AreItemsRead-read_into : (from : ℕ) (before : List X) → AreItemsRead X other item_at from before
      (read_into item_at from before).0 (read_into item_at from before).1
  AreItemsRead-read_into from [] = record {
    loaded = λ i within. absurd (omega (arith, within));
    next = λ within. absurd (omega (arith, within));
    few = omega arith;
    rest = refl;
    same_length = refl;
  }
  AreItemsRead-read_into from (x ∷ rest) =
      AreItemsRead-read_on from x rest (read_into item_at (from + 1) rest)
      (AreItemsRead-read_into (from + 1) rest) (item_at from) refl

  -- and what was read so is that
  read_into-items : (from : ℕ) (before after : List X) (count : ℕ)
      → AreItemsRead X other item_at from before after count
      → read_into item_at from before ≡ (after, count)
  read_into-items from [] [] zero loaded = refl
  read_into-items from [] [] (suc count) loaded =
      absurd (let few = loaded.few in omega (arith, few))
  read_into-items from [] (y ∷ more) count loaded =
      absurd (let same = loaded.same_length in omega (arith, same))
  read_into-items from (x ∷ rest) [] count loaded =
      absurd (let same = loaded.same_length in omega (arith, same))
  read_into-items from (x ∷ rest) (y ∷ more) zero loaded =
      ap (λ o. read_on o (x ∷ rest) (read_into item_at (from + 1) rest))
      (subst (λ f. item_at f ≡ None) (omega arith) (loaded.next (omega arith)))
      ∙ ap (λ items. (items, zero)) (sym loaded.rest)
  read_into-items from (x ∷ rest) (y ∷ more) (suc count) loaded =
      ap (λ o. read_on o (x ∷ rest) (read_into item_at (from + 1) rest))
      (subst (λ f. item_at f ≡ Some y) (omega arith) (loaded.loaded 0 (omega arith)))
      ∙ ap (λ (read : List X × ℕ). (y ∷ read.0, suc read.1))
      (read_into-items (from + 1) rest more count (record {
        loaded = λ i within.
            subst (λ f. item_at f ≡ Some (slice_index_or more i other)) (omega arith)
            (loaded.loaded (suc i) (omega (arith, within)));
        next = λ within. subst (λ f. item_at f ≡ None) (omega arith)
            (loaded.next (omega (arith, within)));
        few = let few = loaded.few in omega (arith, few);
        rest = loaded.rest;
        same_length = let same = loaded.same_length in omega (arith, same);
      }))

-- Numbers are such items.
module _ (number_at : ℕ → Option ℤ) (from : ℕ) where
  pub AreLoaded-read_into : (before : List ℤ) → AreLoaded number_at from before
      (read_into number_at from before).0 (read_into number_at from before).1
  AreLoaded-read_into before =
      let items = AreItemsRead-read_into ℤ (pos 0) number_at from before in record {
        loaded = items.loaded;
        next = items.next;
        few = items.few;
        rest = items.rest;
        same_length = items.same_length;
      }

  pub read_into-loaded : (before after : List ℤ) (count : ℕ)
      → AreLoaded number_at from before after count
      → read_into number_at from before ≡ (after, count)
  read_into-loaded before after count loaded =
      read_into-items ℤ (pos 0) number_at from before after count (record {
        loaded = loaded.loaded;
        next = loaded.next;
        few = loaded.few;
        rest = loaded.rest;
        same_length = loaded.same_length;
      })

none≢some : (b : ℕ) → None ≡ Some b → ⊥
none≢some b is = absurd (cc)

no_byte-no_number : (o : Option ℤ) (j : ℕ) → byte_told o j ≡ None → o ≡ None
no_byte-no_number None j none = refl
no_byte-no_number (Some n) j none = absurd (cc)

-- So are bytes, of which there are none from the first field on that holds no number.
module _ (number_at : ℕ → Option ℤ) (from : ℕ) where
  whole-fields : (after : List ℕ) (count : ℕ)
      → ((i : ℕ) → i < count → byte_in number_at from i ≡ Some (slice_index_or after i 0))
      → number_at (from + count / 7) ≡ None → (m : ℕ) → count % 7 ≡ m → m ≡ 0
  whole-fields after count read none zero is = refl
  whole-fields after count read none (suc m) is =
      let last : (count - 1) / 7 ≡ count / 7 = omega (arith, is) in
      absurd (none≢some (slice_index_or after (count - 1) 0)
      (sym (ap (λ f. byte_told (number_at (from + f)) ((count - 1) % 7)) last
      ∙ ap (λ o. byte_told o ((count - 1) % 7)) none)
      ∙ read (count - 1) (omega (arith, is))))

  pub IsTextRead-read_into : (before : List ℕ) → IsTextRead number_at from before
      (read_into (byte_in number_at from) 0 before).0 (read_into (byte_in number_at from) 0 before).1
  IsTextRead-read_into before =
      let read : List ℕ × ℕ = read_into (byte_in number_at from) 0 before in
      let items = AreItemsRead-read_into ℕ 0 (byte_in number_at from) 0 before in
      let told : (i : ℕ) → i < read.1
      → byte_in number_at from i ≡ Some (slice_index_or read.0 i 0) = λ i within.
      subst (λ k. byte_in number_at from k ≡ Some (slice_index_or read.0 i 0)) (omega arith)
      (items.loaded i within) in record {
        read = told;
        next = λ within.
            let none : number_at (from + read.1 / 7) ≡ None =
            no_byte-no_number (number_at (from + read.1 / 7)) (read.1 % 7)
            (subst (λ k. byte_in number_at from k ≡ None) (omega arith) (items.next within)) in
            (whole-fields read.0 read.1 told none (read.1 % 7) refl, none);
        few = items.few;
        rest = items.rest;
        same_length = items.same_length;
      }

  pub read_into-text : (before after : List ℕ) (count : ℕ)
      → IsTextRead number_at from before after count
      → read_into (byte_in number_at from) 0 before ≡ (after, count)
  read_into-text before after count text =
      read_into-items ℕ 0 (byte_in number_at from) 0 before after count (record {
        loaded = λ i within.
            subst (λ k. byte_in number_at from k ≡ Some (slice_index_or after i 0)) (omega arith)
            (text.read i within);
        next = λ within. subst (λ k. byte_in number_at from k ≡ None) (omega arith)
            (ap (λ o. byte_told o (count % 7)) (text.next within).1);
        few = text.few;
        rest = text.rest;
        same_length = text.same_length;
      })

-- the same, where fields hold the same
module _ (a b : ℕ → Option ℤ) (same : (f : ℕ) → a f ≡ b f) (from : ℕ) where
  pub AreLoaded-as : (before after : List ℤ) (count : ℕ) → AreLoaded a from before after count
      → AreLoaded b from before after count
  AreLoaded-as before after count loaded = record {
    loaded = λ i within. sym (same (from + i)) ∙ loaded.loaded i within;
    next = λ within. sym (same (from + count)) ∙ loaded.next within;
    few = loaded.few;
    rest = loaded.rest;
    same_length = loaded.same_length;
  }

  pub IsTextRead-as : (before after : List ℕ) (count : ℕ) → IsTextRead a from before after count
      → IsTextRead b from before after count
  IsTextRead-as before after count text = record {
    read = λ i within. sym (ap (λ o. byte_told o (i % 7)) (same (from + i / 7))) ∙ text.read i within;
    next = λ within.
        let next = text.next within in (next.0, sym (same (from + count / 7)) ∙ next.1);
    few = text.few;
    rest = text.rest;
    same_length = text.same_length;
  }

-- A row or a text that is read is what peeks of its fields tell.
module _ (s : PacedState) (owner : ℕ) (object : RootId) (from : ℕ) where
  abbrev loaded_at : ℕ → Option ℤ
  loaded_at f = number_told (paced_step s owner (Load object object f)).1

  abbrev peeked_at : ℕ → Option ℤ
  peeked_at f = number_told (peek_answer s owner object f)

  peeked : (f : ℕ) → loaded_at f ≡ peeked_at f
  peeked f = ap number_told (sym (peek_answer-load s owner object f))

  -- what asks so many loads
  abbrev asked : ℕ → Option Refusal
  asked count = first_refusal (graph_in s) (field_loads owner object from count)

  pub row-peeked : (before : List ℤ) → asked (length before) ≡ None
      → ((answer_to s (LoadsInts owner object from before)).status ≡ 0)
      × AreLoaded peeked_at from before (answer_to s (LoadsInts owner object from before)).ints
      (answer_to s (LoadsInts owner object from before)).count
  row-peeked before none =
      let read : List ℤ × ℕ = read_into loaded_at from before in
      subst (λ o. ((with_read with_numbers o before read).status ≡ 0)
      × AreLoaded peeked_at from before (with_read with_numbers o before read).ints
      (with_read with_numbers o before read).count) (sym none) (
        refl,
        AreLoaded-as loaded_at peeked_at peeked from before read.0 read.1
            (AreLoaded-read_into loaded_at from before),
      )

  pub row-unread : (before : List ℤ) (why : Refusal) → asked (length before) ≡ Some why
      → answer_to s (LoadsInts owner object from before) ≡ with_numbers (rank_of why) before 0
  row-unread before why some =
      ap (λ o. with_read with_numbers o before (read_into loaded_at from before)) some

  pub text-peeked : (before : List ℕ) → asked (fields_of_bytes (length before)) ≡ None
      → ((answer_to s (LoadsText owner object from before)).status ≡ 0)
      × IsTextRead peeked_at from before (answer_to s (LoadsText owner object from before)).text
      (answer_to s (LoadsText owner object from before)).count
  text-peeked before none =
      let read : List ℕ × ℕ = read_into (byte_in loaded_at from) 0 before in
      subst (λ o. ((with_read with_text o before read).status ≡ 0)
      × IsTextRead peeked_at from before (with_read with_text o before read).text
      (with_read with_text o before read).count) (sym none) (
        refl,
        IsTextRead-as loaded_at peeked_at peeked from before read.0 read.1
            (IsTextRead-read_into loaded_at from before),
      )

  pub text-unread : (before : List ℕ) (why : Refusal)
      → asked (fields_of_bytes (length before)) ≡ Some why
      → answer_to s (LoadsText owner object from before) ≡ with_text (rank_of why) before 0
  text-unread before why some =
      ap (λ o. with_read with_text o before (read_into (byte_in loaded_at from) 0 before)) some
