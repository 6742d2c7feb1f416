-- What a call says of a heap that it leaves as it is.
use Rattle.std.proofs.Common.{◌≡◌, ◌↔◌, ◌⊎◌, inl, inr, ℕ, List, Option, Some, Result, Ok, Err, refl, sym, ap, subst, ◌∙◌, arith}
use Rattle.std.specs.Prelude.{true}
use Rattle.rh_core.specs.declared.errors.ReleaseError.{ReleaseError}
use Rattle.rh_core.specs.declared.errors.ReleaseError.TheVariants.{CycleOn, OutOfMemory}
use Rattle.rh_core.specs.Heap.{HeapState}
use Rattle.rh_dump.specs.texts.Line.{dump_text}
use Rattle.rh_heap_dump.specs.HeapDump.{dump_of}
use Rattle.rh_pace.specs.Paced.{PacedState}
use Rattle.rh_growing.specs.Growing.{GrowingState}
use Rattle.rheap_c.specs.declared.cycle_numbers.RheapCycleReader.{RheapCycleReader}
use Rattle.rheap_c.specs.declared.cycle_numbers.RheapEndedCycle.{RheapEndedCycle}
use Rattle.rheap_c.specs.Cycles.{ReadsCycle, cycle_read}
use Rattle.rheap_c.specs.Grown.{OnPaced}
use Rattle.rheap_c.specs.Views.{IsDump, IsReleased, IsToldOrRefused, release_status_of}
use Rattle.rheap_c.proofs.Inside.{inside-some}

-- One of fixed sizes.
pub held-kept : (Does : Option PacedState → Option PacedState → Type 0) (old new : Option PacedState) (s t : PacedState) → old ≡ Some s → new ≡ Some t → t ≡ s
    → Does (Some s) (Some s) → Does old new
held-kept Does old new s t was is same done =
    let before : Some s ≡ old = sym was in
    let after : Some s ≡ new = sym (is ∙ ap (λ (p : PacedState). Some p) same) in
    subst (λ (it : Option PacedState × Option PacedState). Does it.0 it.1) (λ k. (before k, after k)) done

-- One that grows.
pub inside-kept : (Does : Option PacedState → Option PacedState → Type 0) (old new : Option GrowingState) (s t : GrowingState) → old ≡ Some s → new ≡ Some t → t ≡ s
    → Does (Some s.paced) (Some s.paced) → OnPaced Does old new
inside-kept Does old new s t was is same done =
    inside-some Does old new s s s.paced was (is ∙ ap (λ (g : GrowingState). Some g) same) refl done

-- It was dumped.
pub dumps : (s : PacedState) (h : HeapState) → h ≡ s.heap → (before after : List ℕ) (count status : ℕ)
    → IsToldOrRefused (dump_text (dump_of h)) before after count status → IsDump (Some s) (Some s) before after count status
dumps s h same before after count status told =
    (refl, subst (λ (g : HeapState). IsToldOrRefused (dump_text (dump_of g)) before after count status) same told)

-- Its cycles were read.
pub reads : (s p : PacedState) → p ≡ s → (before after : RheapCycleReader) (told : RheapEndedCycle)
    → after ≡ (cycle_read before p).0 → told ≡ (cycle_read before p).1 → ReadsCycle (Some s) (Some s) before after told 0
reads s p same before after told left tells =
    (refl, left ∙ ap (λ (q : PacedState). (cycle_read before q).0) same, tells ∙ ap (λ (q : PacedState). (cycle_read before q).1) same, refl)

-- the status says what was answered
of_23 : (told : Result (Unit {0}) ReleaseError) → release_status_of told ≡ 23 → told ≡ Err CycleOn
of_23 (Ok done) is = absurd (omega (arith, is))
of_23 (Err CycleOn) is = refl
of_23 (Err OutOfMemory) is = absurd (omega (arith, is))

one_of : (told : Result (Unit {0}) ReleaseError) → (release_status_of told ≡ 0) ⊎ ((release_status_of told ≡ 16) ⊎ (release_status_of told ≡ 23))
one_of (Ok done) = inl refl
one_of (Err CycleOn) = inr (inr refl)
one_of (Err OutOfMemory) = inr (inl refl)

-- It gave memory back, or didn't.
pub releases : (s p : PacedState) → p ≡ s → (told : Result (Unit {0}) ReleaseError) → ((told ≡ Err CycleOn) ↔ (p.heap.mutators.cycle ≡ true))
    → (status : ℕ) → status ≡ release_status_of told → IsReleased (Some s) (Some s) status
releases s p same told on status is =
    let released : IsReleased (Some p) (Some p) status = (
      refl,
      (λ twenty_three. on.0 (of_23 told (sym is ∙ twenty_three)), λ cycle. is ∙ ap release_status_of (on.1 cycle)),
      subst (λ (n : ℕ). (n ≡ 0) ⊎ ((n ≡ 16) ⊎ (n ≡ 23))) (sym is) (one_of told),
    ) in
    subst (λ (q : PacedState). IsReleased (Some q) (Some q) status) same released
