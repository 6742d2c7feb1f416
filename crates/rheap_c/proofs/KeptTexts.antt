-- A text that was stored is read as it was, with nothing between.
use Rattle.std.proofs.Common.{◌≡◌, ◌⊎◌, inl, inr, ℕ, zero, suc, List, [], ◌∷◌, length, Option, Some, None, refl, sym, ap, subst, ◌∙◌, arith}
use Rattle.std.specs.Prelude.{slice_get}
use Rattle.std.proofs.lemmas.Option.{same_Some}
use Rattle.rh_layout.specs.declared.command.Command.{Command}
use Rattle.rh_layout.specs.declared.command.Command.TheVariants.{Load}
use Rattle.rh_layout.specs.declared.command.RootId.{RootId}
use Rattle.rh_layout.specs.declared.refusal.Refusal.{Refusal}
use Rattle.rh_layout.specs.declared.refusal.Refusal.TheVariants.{NoRoot, NotYours, NotObject, NoField, RawField, IntRange, FieldsRange, SpaceFull, LogFull, NumbersSpent}
use Rattle.rh_layout.specs.Refusal.{rank_of}
use Rattle.rh_model.specs.Plain.{PlainHeap, graph_of as plain_graph_of, step}
use Rattle.rh_mutator.specs.LoadingAll.{field_loads, number_told}
use Rattle.rh_mutator.specs.Mutator.{StandsFor, graph_of}
use Rattle.rh_mutator.specs.StoringAll.{first_refusal, log_limit_for, number_stores}
use Rattle.rh_mutator.specs.Texts.{IsTextRead, fields_of_bytes, text_numbers}
use Rattle.rh_mutator.specs.lemmas.StoringAll.{none-first}
use Rattle.rh_mutator.specs.lemmas.Texts.{length-text_numbers}
use Rattle.rh_pace.specs.Paced.{PacedState}
use Rattle.rh_pace.specs.PlainBounds.{plain_after}
use Rattle.rh_pace.specs.PlainReplies.{first_refused, plain_replies}
use Rattle.rh_pace.proofs.StoringAll.{first_refusal-met, first_refusal-plain}
use Rattle.rh_pace.proofs.Texts.{stored-held}
use Rattle.rheap_c.specs.Rows.{ready_for, row_refusal}
use Rattle.rheap_c.specs.Runs.{Answer, AreMade, Call, IsMade, after_call, plain_after_call, with_text}
use Rattle.rheap_c.specs.Runs.Call.{InsistsOnInts, LoadsText, StoresInts}
use Rattle.rheap_c.specs.Several.{AreBytesRead, AreBytesTold, AreDone, AreReadUnless, AreStored, AreStoredUnless}
use Rattle.rheap_c.proofs.Rows.{AreStoredInsisting-ready, AreStoredInsisting-stands}
use Rattle.rheap_c.proofs.Runs.{IsMade-after, IsMade-plain}

-- no refusal has status 0
rank-zero : (why : Refusal) → 0 ≡ rank_of why → ⊥
rank-zero NoRoot is = absurd (omega (arith, is))
rank-zero NotYours is = absurd (omega (arith, is))
rank-zero NotObject is = absurd (omega (arith, is))
rank-zero NoField is = absurd (omega (arith, is))
rank-zero RawField is = absurd (omega (arith, is))
rank-zero IntRange is = absurd (omega (arith, is))
rank-zero FieldsRange is = absurd (omega (arith, is))
rank-zero (SpaceFull need free) is = absurd (omega (arith, is))
rank-zero LogFull is = absurd (omega (arith, is))
rank-zero NumbersSpent is = absurd (omega (arith, is))

-- so stores with status 0 are done
stored-done : (r : Option Refusal) (old new : PacedState) (row : List (ℕ × Command)) → AreStoredUnless r old new row 0 → (r ≡ None) × AreDone old new row
stored-done None old new row (done, is) = (refl, done)
stored-done (Some why) old new row (same, is) = absurd (rank-zero why is)

module _ (owner : ℕ) (object : RootId) (from : ℕ) (text : List ℕ) where
  abbrev row : List (ℕ × Command)
  row = number_stores owner object from (text_numbers text)

  -- a plain heap reads the text as it was
  abbrev IsKept : PlainHeap → Type 0
  IsKept p = first_refused (plain_replies p row) ≡ None → (before after : List ℕ) (count : ℕ) → length before ≡ length text
      → IsTextRead (λ f. number_told (step (plain_after p row) owner (Load object object f)).1) from before after count
      → (count ≡ length text) × (after ≡ text)

  pub text-kept : (s : PacedState) (p : PlainHeap) → StandsFor s.heap.mutators p → (between new : Option PacedState)
      → IsKept p → AreStored (Some s) between owner object from (text_numbers text) 0
      → (before after : List ℕ) (count status : ℕ) → length before ≡ length text
      → AreBytesTold between new owner object from before after count status
      → (status ≡ 0) × (count ≡ length text) × (after ≡ text)
  text-kept s p stands between new kept (mid, is, stored) before after count status same told =
      let q : PlainHeap = plain_after p row in
      let both = stored-done (row_refusal s owner object from (text_numbers text)) s mid row stored in
      let asked = sym (first_refusal-met s.heap.mutators p stands owner object from (text_numbers text))
      ∙ (none-first (first_refusal (graph_of s.heap.mutators) row) (log_limit_for (length (text_numbers text)) s.heap.mutators.cycle s.heap.mutators.log) both.0).0 in
      let after_stands : StandsFor mid.heap.mutators q = both.1.stands p stands in
      let fine : first_refusal (graph_of mid.heap.mutators) (field_loads owner object from (fields_of_bytes (length before))) ≡ None =
      first_refusal-plain mid.heap.mutators q after_stands (field_loads owner object from (fields_of_bytes (length before)))
      ∙ ap (λ n. first_refusal (plain_graph_of q) (field_loads owner object from n)) (ap fields_of_bytes same ∙ sym (length-text_numbers text))
      ∙ (stored-held p owner object from (text_numbers text) asked).asked in
      let read = subst (λ (r : Option Refusal). AreReadUnless r (AreBytesRead mid owner object from before after count) before after count status) fine
      (subst (λ b. AreBytesTold b new owner object from before after count status) is told).1 in
      let told_text = kept asked before after count same (read.0.plain q after_stands) in (read.1, told_text.0, told_text.1)

  -- so it does on what the call left that stored it
  abbrev Stores : Call → Type 0
  Stores call = (call ≡ StoresInts owner object from (text_numbers text)) ⊎ (call ≡ InsistsOnInts owner object from (text_numbers text))

  stored-made : (s : PacedState) (p : PlainHeap) → StandsFor s.heap.mutators p → (between : Option PacedState) (call : Call) (a : Answer)
      → Stores call → IsMade (Some s) between call a → a.status ≡ 0
      → (t : PacedState) × StandsFor t.heap.mutators p × AreStored (Some t) between owner object from (text_numbers text) 0
  stored-made s p stands between call a (inl is) made zero_is =
      (s, stands, subst (AreStored (Some s) between owner object from (text_numbers text)) zero_is (subst (λ c. IsMade (Some s) between c a) is made).0)
  stored-made s p stands between call a (inr is) made zero_is =
      let insisted = (subst (λ c. IsMade (Some s) between c a) is made).0 in (
        ready_for s owner object from (text_numbers text),
        AreStoredInsisting-stands s owner object from (text_numbers text) between a.status p insisted stands,
        subst (AreStored (Some (ready_for s owner object from (text_numbers text))) between owner object from (text_numbers text)) zero_is
            (AreStoredInsisting-ready s owner object from (text_numbers text) between a.status insisted),
      )

  text-made : (kept : (p : PlainHeap) → IsKept p) (s : PacedState) (p : PlainHeap) → StandsFor s.heap.mutators p → (between new : Option PacedState)
      (store : Call) (before : List ℕ) (a b : Answer) → Stores store → length before ≡ length text → IsMade (Some s) between store a → a.status ≡ 0
      → IsMade between new (LoadsText owner object from before) b → b ≡ with_text 0 text (length text)
  text-made kept s p stands between new store before a b stores same made zero_is read =
      let on = stored-made s p stands between store a stores made zero_is in
      let told = text-kept on.0 p on.1 between new (kept p) on.2 before b.text b.count b.status same read.0 in
      read.1 ∙ ap (λ status. with_text status b.text b.count) told.0 ∙ ap (λ xs. with_text 0 xs b.count) told.2
      ∙ ap (with_text 0 text) told.1

  -- and so it is wherever the two stand in a list of calls
  pub text-made_at : (kept : (p : PlainHeap) → IsKept p) (store : Call) (before : List ℕ) (a b : Answer) → Stores store → length before ≡ length text → a.status ≡ 0
      → (i : ℕ) (s : PacedState) (p : PlainHeap) → StandsFor s.heap.mutators p → (new : Option PacedState) (calls : List Call) (answers : List Answer)
      → AreMade (Some s) new calls answers
      → slice_get calls i ≡ Some store → slice_get calls (suc i) ≡ Some (LoadsText owner object from before)
      → slice_get answers i ≡ Some a → slice_get answers (suc i) ≡ Some b → b ≡ with_text 0 text (length text)
  text-made_at kept store before a b stores same zero_is i s p stands new [] answers made call next said then = absurd (cc)
  text-made_at kept store before a b stores same zero_is i s p stands new (c ∷ calls) [] made call next said then = absurd made
  text-made_at kept store before a b stores same zero_is zero s p stands new (c ∷ []) (d ∷ more) made call next said then = absurd (cc)
  text-made_at kept store before a b stores same zero_is zero s p stands new (c ∷ c1 ∷ calls) (d ∷ []) made call next said then = absurd (cc)
  text-made_at kept store before a b stores same zero_is zero s p stands new (c ∷ c1 ∷ calls) (d ∷ d1 ∷ more) (between, made, (after, read, rest)) call next said then =
      text-made kept s p stands between after store before a b stores same
      (subst (λ x. IsMade (Some s) between x a) (same_Some c store call) (subst (IsMade (Some s) between c) (same_Some d a said) made)) zero_is
      (subst (λ x. IsMade between after x b) (same_Some c1 (LoadsText owner object from before) next) (subst (IsMade between after c1) (same_Some d1 b then) read))
  text-made_at kept store before a b stores same zero_is (suc i) s p stands new (c ∷ calls) (d ∷ more) (between, made, rest) call next said then =
      text-made_at kept store before a b stores same zero_is i (after_call s c) (plain_after_call p c d) (IsMade-plain s between c d p made stands).1 new calls more
      (subst (λ x. AreMade x new calls more) (IsMade-after s between c d made) rest) call next said then
