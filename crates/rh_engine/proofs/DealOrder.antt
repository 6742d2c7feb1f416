-- A deal into a tray is refused by the first refusal that holds, and changes nothing then.
use Rattle.std.proofs.Common.{◌≡◌, ℕ, zero, suc, ◌<◌, ◌⊎◌, inl, inr, Bool, true, false, not, ◌==◌, ◌&&◌, if◌then◌else◌, List, length, Option, Some, None, is_none, Result, Ok, Err, unwrap_or, refl, sym, ◌∙◌, ap, subst, true≢false, arith}
use Rattle.std.specs.Prelude.{nat_le}
use Rattle.std.proofs.lemmas.Bool.{leb-true, le-leb}
use Rattle.std.specs.Cmp.{nat_eq_equiv}
use borrow.Author.Tests.{eqb-true}
use Rattle.rh_text.specs.Stages.{IsLeast, IsFaultless}
use Rattle.rh_core.specs.Dealing.{deal_step}
use Rattle.rh_core.specs.Heap.{HeapState}
use Rattle.rh_core.specs.declared.outcomes.Dealt.{Dealt}
use Rattle.rh_layout.specs.declared.kind.Kind.{Kind}
use Rattle.rh_core.specs.declared.errors.DealError.{DealError}
use Rattle.rh_core.specs.declared.errors.DealError.TheVariants as deal_errors
use Rattle.rh_engine.specs.Trays.{Tray, tray_named, tray_or_empty, empty_tray, is_beyond}
use Rattle.rh_engine.specs.Engine.{EngineState, deal_done, deal_unless as line_unless, deal_line_step, IsOneTooMany, IsOfOtherEpoch, refusals_of_deal}
use Rattle.rh_engine.specs.declared.engine.TrayDeal.{TrayDeal}
use Rattle.rh_engine.specs.declared.engine.DealRefusal.{DealRefusal}
use Rattle.rh_engine.specs.declared.engine.DealRefusal.TheVariants as deal_refusals
use Rattle.rh_engine.proofs.EngineLemmas.{refused-heap}

none_from : {A : Type 0} → (f : Option A) → is_none f ≡ true → f ≡ None
none_from None h = refl
none_from (Some x) h = absurd (true≢false (sym h))

both_from : (x y : Bool) → (x && y) ≡ true → (x ≡ true) × (y ≡ true)
both_from true true h = (refl, refl)
both_from true false h = absurd (true≢false (sym h))
both_from false y h = absurd (true≢false (sym h))

-- the test on the limit says what it should
pub too_many_from : (e : EngineState) (name : List ℕ) → is_beyond e.trays name ≡ true → IsOneTooMany e name
too_many_from e name h =
    let parts = both_from (is_none (tray_named e.trays name)) (nat_le 64 (length e.trays)) h in
    (none_from (tray_named e.trays name) parts.0, leb-true 64 (length e.trays) parts.1)

pub from_too_many : (e : EngineState) (name : List ℕ) → IsOneTooMany e name → is_beyond e.trays name ≡ true
from_too_many e name h = ap (λ f. is_none f && nat_le 64 (length e.trays)) h.0 ∙ le-leb 64 (length e.trays) h.1

module _ (e : EngineState) (kind : Kind) (most : ℕ) (name : List ℕ) where
  abbrev Holds : ℕ → DealRefusal → Type 0
  Holds = refusals_of_deal e kind most name

  abbrev tray_epoch : ℕ
  tray_epoch = (tray_or_empty e.trays name e.heap.epoch).epoch

  other_by : (f : Option Tray) → tray_named e.trays name ≡ f → ((unwrap_or f (empty_tray e.heap.epoch)).epoch == e.heap.epoch) ≡ false → IsOfOtherEpoch e name
  other_by None is h = absurd (true≢false (sym (nat_eq_equiv.refl e.heap.epoch) ∙ h))
  other_by (Some t) is h =
      (t, is, λ same. true≢false (sym (nat_eq_equiv.refl e.heap.epoch) ∙ ap (λ n. n == e.heap.epoch) (sym same) ∙ h))

  same_by : (t : Tray) → tray_named e.trays name ≡ Some t → tray_epoch ≡ e.heap.epoch → t.epoch ≡ e.heap.epoch
  same_by t is same = ap (λ f. (unwrap_or f (empty_tray e.heap.epoch)).epoch) (sym is) ∙ same

  first_at_0 : (why : DealRefusal) → why ≡ deal_refusals.Heap deal_errors.NoCycle → (p : ℕ) (k : DealRefusal) → Holds p k → (0 < p) ⊎ ((p ≡ 0) × (k ≡ why))
  first_at_0 why is zero k h = inr (refl, h.0 ∙ sym is)
  first_at_0 why is (suc p) k h = inl (omega arith)

  first_at_1 : (why : DealRefusal) → why ≡ deal_refusals.TooManyTrays → e.heap.mutators.cycle ≡ true
      → (p : ℕ) (k : DealRefusal) → Holds p k → (1 < p) ⊎ ((p ≡ 1) × (k ≡ why))
  first_at_1 why is on zero k h = absurd (true≢false (sym on ∙ h.1))
  first_at_1 why is on (suc zero) k h = inr (refl, h.0 ∙ sym is)
  first_at_1 why is on (suc (suc p)) k h = inl (omega arith)

  first_at_2 : (why : DealRefusal) → why ≡ deal_refusals.OtherEpoch → e.heap.mutators.cycle ≡ true → is_beyond e.trays name ≡ false
      → (p : ℕ) (k : DealRefusal) → Holds p k → (2 < p) ⊎ ((p ≡ 2) × (k ≡ why))
  first_at_2 why is on few zero k h = absurd (true≢false (sym on ∙ h.1))
  first_at_2 why is on few (suc zero) k h = absurd (true≢false (sym (from_too_many e name h.1) ∙ few))
  first_at_2 why is on few (suc (suc zero)) k h = inr (refl, h.0 ∙ sym is)
  first_at_2 why is on few (suc (suc (suc p))) k h = inl (omega arith)

  none_before_3 : e.heap.mutators.cycle ≡ true → is_beyond e.trays name ≡ false → tray_epoch ≡ e.heap.epoch → (error : DealError)
      → (deal_step e.heap kind most).1 ≡ Err error
      → (p : ℕ) (k : DealRefusal) → Holds p k → (3 < p) ⊎ ((p ≡ 3) × (k ≡ deal_refusals.Heap error))
  none_before_3 on few same error is zero k h = absurd (true≢false (sym on ∙ h.1))
  none_before_3 on few same error is (suc zero) k h = absurd (true≢false (sym (from_too_many e name h.1) ∙ few))
  none_before_3 on few same error is (suc (suc zero)) k h = absurd (h.1.2 (same_by h.1.0 h.1.1 same))
  none_before_3 on few same error is (suc (suc (suc zero))) k h =
      let equal : h.0 ≡ error = cc (h.2, is) in
      inr (refl, h.1 ∙ ap deal_refusals.Heap equal)
  none_before_3 on few same error is (suc (suc (suc (suc p)))) k h = inl (omega arith)

  abbrev choice : Bool → Bool → Bool → Option DealRefusal
  choice c b t =
      if not c then Some (deal_refusals.Heap deal_errors.NoCycle)
      else if b then Some deal_refusals.TooManyTrays
      else if not t then Some deal_refusals.OtherEpoch
      else None

  abbrev IsRefused : EngineState × Result TrayDeal DealRefusal → DealRefusal → Type 0
  IsRefused done why = IsLeast Holds why × (done.0 ≡ e)

  heap_by : (heap : HeapState) (answer : Result Dealt DealError) → (deal_step e.heap kind most).1 ≡ answer
      → ((error : DealError) → answer ≡ Err error → heap ≡ e.heap)
      → e.heap.mutators.cycle ≡ true → is_beyond e.trays name ≡ false → tray_epoch ≡ e.heap.epoch
      → (why : DealRefusal) → (deal_done heap answer e.trays name).1 ≡ Err why → IsRefused (deal_done heap answer e.trays name) why
  heap_by heap (Ok d) is kept on few same why h = cc
  heap_by heap (Err error) is kept on few same why h =
      let equal : deal_refusals.Heap error ≡ why = cc in
      let at : (error : DealError) × (why ≡ deal_refusals.Heap error) × ((deal_step e.heap kind most).1 ≡ Err error) = (error, sym equal, is) in (
        record { stage = 3; holds = at; least = λ p k held. subst (λ w. (3 < p) ⊎ ((p ≡ 3) × (k ≡ w))) equal (none_before_3 on few same error is p k held) },
        ap (λ (x : HeapState). record e { heap = x }) (kept error refl),
      )

  refused_by : (c b t : Bool) → e.heap.mutators.cycle ≡ c → is_beyond e.trays name ≡ b → (tray_epoch == e.heap.epoch) ≡ t
      → (why : DealRefusal) → (line_unless (choice c b t) e kind most name).1 ≡ Err why → IsRefused (line_unless (choice c b t) e kind most name) why
  refused_by false b t on few same why h =
      let equal : why ≡ deal_refusals.Heap deal_errors.NoCycle = cc in
      (record { stage = 0; holds = (equal, on); least = first_at_0 why equal }, refl)
  refused_by true true t on few same why h =
      let equal : why ≡ deal_refusals.TooManyTrays = cc in
      (record { stage = 1; holds = (equal, too_many_from e name few); least = first_at_1 why equal on }, refl)
  refused_by true false false on few same why h =
      let equal : why ≡ deal_refusals.OtherEpoch = cc in
      (record { stage = 2; holds = (equal, other_by (tray_named e.trays name) refl same); least = first_at_2 why equal on few }, refl)
  refused_by true false true on few same why h =
      heap_by (deal_step e.heap kind most).0 (deal_step e.heap kind most).1 refl (refused-heap e.heap kind most) on few (eqb-true tray_epoch e.heap.epoch same) why h

  -- a refused deal is refused by the first refusal that holds, and changes nothing
  pub deal-refused : (why : DealRefusal) → (deal_line_step e kind most name).1 ≡ Err why → IsRefused (deal_line_step e kind most name) why
  deal-refused why h = refused_by e.heap.mutators.cycle (is_beyond e.trays name) (tray_epoch == e.heap.epoch) refl refl refl why h

  none_holds : (d : Dealt) → (deal_step e.heap kind most).1 ≡ Ok d → e.heap.mutators.cycle ≡ true → is_beyond e.trays name ≡ false → tray_epoch ≡ e.heap.epoch
      → (p : ℕ) (k : DealRefusal) → Holds p k → ⊥
  none_holds d is on few same zero k h = true≢false (sym on ∙ h.1)
  none_holds d is on few same (suc zero) k h = true≢false (sym (from_too_many e name h.1) ∙ few)
  none_holds d is on few same (suc (suc zero)) k h = h.1.2 (same_by h.1.0 h.1.1 same)
  none_holds d is on few same (suc (suc (suc zero))) k h = cc (h.2, is)
  none_holds d is on few same (suc (suc (suc (suc p)))) k h = h

  dealt_by : (heap : HeapState) (answer : Result Dealt DealError) → (deal_step e.heap kind most).1 ≡ answer
      → e.heap.mutators.cycle ≡ true → is_beyond e.trays name ≡ false → tray_epoch ≡ e.heap.epoch
      → (done : TrayDeal) → (deal_done heap answer e.trays name).1 ≡ Ok done → (p : ℕ) (k : DealRefusal) → Holds p k → ⊥
  dealt_by heap (Ok d) is on few same done h = none_holds d is on few same
  dealt_by heap (Err error) is on few same done h = cc

  accepted_by : (c b t : Bool) → e.heap.mutators.cycle ≡ c → is_beyond e.trays name ≡ b → (tray_epoch == e.heap.epoch) ≡ t
      → (done : TrayDeal) → (line_unless (choice c b t) e kind most name).1 ≡ Ok done → (p : ℕ) (k : DealRefusal) → Holds p k → ⊥
  accepted_by false b t on few same done h = cc
  accepted_by true true t on few same done h = cc
  accepted_by true false false on few same done h = cc
  accepted_by true false true on few same done h =
      dealt_by (deal_step e.heap kind most).0 (deal_step e.heap kind most).1 refl on few (eqb-true tray_epoch e.heap.epoch same) done h

  -- where something is dealt no refusal holds
  pub deal-accepted : (done : TrayDeal) → (deal_line_step e kind most name).1 ≡ Ok done → IsFaultless Holds
  deal-accepted done h = accepted_by e.heap.mutators.cycle (is_beyond e.trays name) (tray_epoch == e.heap.epoch) refl refl refl done h
