-- What calls for several fields of a heap that grows promise, by cases of what refuses them.
use Rattle.std.proofs.Common.{◌≡◌, ◌≢◌, inl, inr, ℕ, ℤ, Bool, List, Option, Some, None, Result, refl, sym, ap, subst, ◌∙◌, arith}
use Rattle.std.proofs.lemmas.Bool.{false≢true}
use Rattle.rh_layout.specs.declared.command.Command.{Command}
use Rattle.rh_layout.specs.declared.command.RootId.{RootId}
use Rattle.rh_layout.specs.declared.refusal.Refusal.{Refusal}
use Rattle.rh_layout.specs.declared.refusal.Refusal.TheVariants.{LogFull}
use Rattle.rh_layout.specs.Refusal.{rank_of}
use Rattle.rh_mutator.specs.StoringAll.{number_stores, numbers_refusal}
use Rattle.rh_core.specs.declared.outcomes.Flipped.{Flipped}
use Rattle.rh_pace.specs.declared.errors.EpochsSpent.{EpochsSpent}
use Rattle.rh_pace.specs.Collecting.{collect_step}
use Rattle.rh_pace.proofs.StoredInTime.{full-places}
use Rattle.rh_growing.specs.Growing.{GrowingState}
use Rattle.rheap_c.specs.Grown.{AreGrownDone, AreGrownNumbers, AreGrownNumbersInsisting, AreGrownStoredUnless, IsGrownCollection}
use Rattle.rheap_c.proofs.Unless.{rank-full}

pub AreGrownStoredUnless-ok : (r : Option Refusal) (old new : GrowingState) (row : List (ℕ × Command)) (given : Bool)
    → r ≡ None → AreGrownDone given old new row → AreGrownStoredUnless r old new row 0
AreGrownStoredUnless-ok r old new row given is done =
    subst (λ (o : Option Refusal). AreGrownStoredUnless o old new row 0) (sym is) (given, done, refl)

pub AreGrownStoredUnless-err : (r : Option Refusal) (why : Refusal) (old new : GrowingState)
    (row : List (ℕ × Command)) (status : ℕ) → r ≡ Some why → new ≡ old → status ≡ rank_of why
    → AreGrownStoredUnless r old new row status
AreGrownStoredUnless-err r why old new row status is same rank =
    subst (λ (o : Option Refusal). AreGrownStoredUnless o old new row status) (sym is) (same, rank)

-- status 9 is that of a full log, and nothing has changed
status-full : (r : Option Refusal) (old new : GrowingState) (row : List (ℕ × Command)) (status : ℕ)
    → AreGrownStoredUnless r old new row status → status ≡ 9 → (r ≡ Some LogFull) × (new ≡ old)
status-full None old new row status (given, done, zero_is) nine = absurd (omega (arith, zero_is, nine))
status-full (Some why) old new row status (same, rank) nine =
    (ap (λ (w : Refusal). Some w) (rank-full why (sym rank ∙ nine)), same)

module _ (owner : ℕ) (object : RootId) (from : ℕ) (numbers : List ℤ) where
  abbrev row : List (ℕ × Command)
  row = number_stores owner object from numbers

  abbrev why : GrowingState → Option Refusal
  why s = numbers_refusal s.paced.heap.mutators owner object from numbers

  -- it was stored at once
  pub AreGrownNumbers-once : (old new : GrowingState) (status : ℕ) → status ≢ 9
      → AreGrownNumbers old new owner object from numbers status → AreGrownNumbersInsisting old new owner object from numbers status
  AreGrownNumbers-once old new status other stored = (other, inl stored)

  -- where the log was too full, a collection empties it
  pub AreGrownNumbers-again : (old mid collected new : GrowingState) (given : Bool) (told : Result Flipped EpochsSpent)
      (first status : ℕ) → first ≡ 9 → AreGrownNumbers old mid owner object from numbers first
      → IsGrownCollection given mid collected told → AreGrownNumbers collected new owner object from numbers status
      → AreGrownNumbersInsisting old new owner object from numbers status
  AreGrownNumbers-again old mid collected new given told first status nine full collects stored =
      let was = status-full (why old) old mid row first full nine in
      let on = (full-places mid.paced.heap.mutators owner object from numbers (ap why was.1 ∙ was.0)).0 in
      let off = collects.outside (collects.flips.1 (inl on)) in (
        λ again. false≢true (sym off
            ∙ (full-places collected.paced.heap.mutators owner object from numbers
            (status-full (why collected) collected new row status stored again).0).0),
        inr (
          was.0,
          given,
          collected,
          subst (λ (s : GrowingState). IsGrownCollection given s collected (collect_step s.paced).1) was.1
              (subst (IsGrownCollection given mid collected) collects.answer collects),
          stored,
        ),
      )
