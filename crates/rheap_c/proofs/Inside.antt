-- What is done on the heap inside one that grows.
use Rattle.std.proofs.Common.{◌≡◌, ℕ, ℤ, List, Option, Some, None, Result, refl, sym, ap, subst, ◌∙◌}
use Rattle.rh_layout.specs.declared.command.Reply.{Reply}
use Rattle.rh_layout.specs.declared.command.RootId.{RootId}
use Rattle.rh_layout.specs.declared.refusal.Refusal.{Refusal}
use Rattle.rh_pace.specs.Paced.{PacedState}
use Rattle.rh_growing.specs.Growing.{GrowingState, with_paced}
use Rattle.rheap_c.specs.declared.value.RheapValue.{RheapValue}
use Rattle.rheap_c.specs.Grown.{OnPaced}
use Rattle.rheap_c.specs.Numbers.{IsRead}
use Rattle.rheap_c.specs.Read.{IsAnswered, IsCounted, count_status, count_told}
use Rattle.rheap_c.specs.Several.{AreBytesTold, AreTold}
use Rattle.rheap_c.specs.Told.{status_of, told_value}

module _ (Does : Option PacedState → Option PacedState → Type 0) (old new : Option GrowingState) where
  -- No heap is open.
  pub inside-none : old ≡ None → new ≡ None → Does None None → OnPaced Does old new
  inside-none was is done = subst (λ (o : Option GrowingState). OnPaced Does o new) (sym was) (is, done)

  -- One is.
  pub inside-some : (s t : GrowingState) (p : PacedState) → old ≡ Some s → new ≡ Some t → t ≡ with_paced s p → Does (Some s.paced) (Some p) → OnPaced Does old new
  inside-some s t p was is same done =
      subst (λ (o : Option GrowingState). OnPaced Does o new) (sym was) (p, is ∙ ap (λ (u : GrowingState). Some u) same, done)

-- It was read, and answered so.
pub inside-answered : (read : PacedState → Result Reply Refusal) (old new : Option GrowingState) (s : GrowingState) → old ≡ Some s → new ≡ Some s
    → (p : PacedState) → p ≡ s.paced → (told : Result Reply Refusal) → told ≡ read p → (status : ℕ) → status ≡ status_of told
    → (value : RheapValue) → value ≡ told_value told → OnPaced (λ o n. IsAnswered read o n status value) old new
inside-answered read old new s was is p same told says status st value tells =
    let answered : IsAnswered read (Some s.paced) (Some s.paced) status value =
    (refl, st ∙ ap status_of (says ∙ ap read same), tells ∙ ap told_value (says ∙ ap read same)) in
    inside-some (λ o n. IsAnswered read o n status value) old new s s s.paced was is refl answered

-- Fields were counted in it.
pub inside-counted : (counts : PacedState → Result ℕ Refusal) (old new : Option GrowingState) (s : GrowingState) → old ≡ Some s → new ≡ Some s
    → (end : Result ℕ Refusal) → end ≡ counts s.paced → (status : ℕ) → status ≡ count_status end → (count : ℕ) → count ≡ count_told end
    → OnPaced (λ o n. IsCounted counts o n status count) old new
inside-counted counts old new s was is end says status st count tells =
    let counted : IsCounted counts (Some s.paced) (Some s.paced) status count = (refl, st ∙ ap count_status says, tells ∙ ap count_told says) in
    inside-some (λ o n. IsCounted counts o n status count) old new s s s.paced was is refl counted

-- Numbers of several fields were read in it, or the bytes of a text.
module _ (old new : Option GrowingState) (s : GrowingState) (was : old ≡ Some s) (is : new ≡ Some s) (p : PacedState) (same : p ≡ s.paced)
    (owner : ℕ) (asked object : RootId) (names : asked ≡ object) (from : ℕ) where
  pub inside-numbers : (before after : List ℤ) (count status : ℕ) → AreTold (Some p) (Some p) owner asked from before after count status
      → OnPaced (λ o n. AreTold o n owner object from before after count status) old new
  inside-numbers before after count status told =
      inside-some (λ o n. AreTold o n owner object from before after count status) old new s s s.paced was is refl
      (subst (λ (it : PacedState × RootId). AreTold (Some it.0) (Some it.0) owner it.1 from before after count status) (λ k. (same k, names k)) told)

  pub inside-text : (before after : List ℕ) (count status : ℕ) → AreBytesTold (Some p) (Some p) owner asked from before after count status
      → OnPaced (λ o n. AreBytesTold o n owner object from before after count status) old new
  inside-text before after count status told =
      inside-some (λ o n. AreBytesTold o n owner object from before after count status) old new s s s.paced was is refl
      (subst (λ (it : PacedState × RootId). AreBytesTold (Some it.0) (Some it.0) owner it.1 from before after count status) (λ k. (same k, names k)) told)

-- Numbers of it were read.
module _ (old new : Option GrowingState) (s u : GrowingState) (was : old ≡ Some s) (is : new ≡ Some u) (same : u ≡ s) where
  pub inside-read : {X : Type 0} (read : PacedState → X) (nothing told : X) → told ≡ read s.paced → OnPaced (λ o n. IsRead read nothing o n 0 told) old new
  inside-read read nothing told says =
      let left : new ≡ Some s = is ∙ ap (λ (t : GrowingState). Some t) same in
      inside-some (λ o n. IsRead read nothing o n 0 told) old new s s s.paced was left refl (refl, refl, says)
