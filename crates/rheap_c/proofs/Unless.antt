-- What calls for several fields promise, by cases of what refuses them.
use Rattle.std.proofs.Common.{◌≡◌, ◌≢◌, inl, ℕ, ℤ, List, Option, Some, None, Result, Ok, Err, refl, sym, ap, subst, ◌∙◌, arith}
use Rattle.std.specs.Prelude.{◌↔◌}
use Rattle.std.proofs.lemmas.Bool.{false≢true}
use Rattle.rh_layout.specs.declared.command.Command.{Command}
use Rattle.rh_layout.specs.declared.command.RootId.{RootId}
use Rattle.rh_layout.specs.declared.refusal.Refusal.{Refusal}
use Rattle.rh_layout.specs.declared.refusal.Refusal.TheVariants.{NoRoot, NotYours, NotObject, NoField, RawField, IntRange, FieldsRange, SpaceFull, LogFull, NumbersSpent}
use Rattle.rh_layout.specs.Refusal.{rank_of}
use Rattle.rh_mutator.specs.StoringAll.{number_stores, numbers_refusal}
use Rattle.rh_core.specs.declared.outcomes.Flipped.{Flipped}
use Rattle.rh_pace.specs.declared.errors.EpochsSpent.{EpochsSpent}
use Rattle.rh_pace.specs.Collecting.{collect_step}
use Rattle.rh_pace.specs.Paced.{PacedState}
use Rattle.rh_pace.proofs.StoredInTime.{full-places}
use Rattle.rheap_c.specs.Collected.{IsCollection}
use Rattle.rheap_c.specs.Several.{AreDone, AreReadUnless, AreStoredUnless}

ok≢err : {X : Type 0} (x : X) (why : Refusal) → Ok x ≡ Err why → ⊥
ok≢err x why is = absurd (cc)

-- what was answered wasn't refused
pub none-refused : {X : Type 0} (x : X) (told : Result X Refusal) (r : Option Refusal) → told ≡ Ok x
    → ((why : Refusal) → (told ≡ Err why) ↔ (r ≡ Some why)) → r ≡ None
none-refused x told None is refused = refl
none-refused x told (Some why) is refused = absurd (ok≢err x why (sym is ∙ (refused why).1 refl))

pub AreStoredUnless-ok : (r : Option Refusal) (old new : PacedState) (given : List (ℕ × Command))
    → r ≡ None → AreDone old new given → AreStoredUnless r old new given 0
AreStoredUnless-ok r old new given is done =
    subst (λ (o : Option Refusal). AreStoredUnless o old new given 0) (sym is) (done, refl)

pub AreStoredUnless-err : (r : Option Refusal) (why : Refusal) (old new : PacedState)
    (given : List (ℕ × Command)) (status : ℕ) → r ≡ Some why → new ≡ old → status ≡ rank_of why
    → AreStoredUnless r old new given status
AreStoredUnless-err r why old new given status is same rank =
    subst (λ (o : Option Refusal). AreStoredUnless o old new given status) (sym is) (same, rank)

module _ {X : Type 0} (read : Type 0) (before after : List X) where
  pub AreReadUnless-ok : (r : Option Refusal) (count : ℕ) → r ≡ None → read
      → AreReadUnless r read before after count 0
  AreReadUnless-ok r count is done =
      subst (λ (o : Option Refusal). AreReadUnless o read before after count 0) (sym is) (done, refl)

  pub AreReadUnless-err : (r : Option Refusal) (why : Refusal) (status : ℕ) → r ≡ Some why
      → after ≡ before → status ≡ rank_of why → AreReadUnless r read before after 0 status
  AreReadUnless-err r why status is same rank =
      subst (λ (o : Option Refusal). AreReadUnless o read before after 0 status) (sym is)
      (same, refl, rank)

pub rank-full : (why : Refusal) → rank_of why ≡ 9 → why ≡ LogFull
rank-full NoRoot is = absurd (omega (arith, is))
rank-full NotYours is = absurd (omega (arith, is))
rank-full NotObject is = absurd (omega (arith, is))
rank-full NoField is = absurd (omega (arith, is))
rank-full RawField is = absurd (omega (arith, is))
rank-full IntRange is = absurd (omega (arith, is))
rank-full FieldsRange is = absurd (omega (arith, is))
rank-full (SpaceFull need free) is = absurd (omega (arith, is))
rank-full LogFull is = refl
rank-full NumbersSpent is = absurd (omega (arith, is))

-- status 9 is that of a full log, and nothing has changed
status-full : (r : Option Refusal) (old new : PacedState) (given : List (ℕ × Command)) (status : ℕ)
    → AreStoredUnless r old new given status → status ≡ 9 → (r ≡ Some LogFull) × (new ≡ old)
status-full None old new given status (done, zero_is) nine = absurd (omega (arith, zero_is, nine))
status-full (Some why) old new given status (same, rank) nine =
    (ap (λ (w : Refusal). Some w) (rank-full why (sym rank ∙ nine)), same)

module _ (owner : ℕ) (object : RootId) (from : ℕ) (numbers : List ℤ) where
  abbrev given : List (ℕ × Command)
  given = number_stores owner object from numbers

  abbrev why : PacedState → Option Refusal
  why s = numbers_refusal s.heap.mutators owner object from numbers

  -- where the log was too full, a collection empties it
  pub AreStored-again : (old between collected new : PacedState) (told : Result Flipped EpochsSpent)
      (first status : ℕ) → first ≡ 9
      → AreStoredUnless (numbers_refusal old.heap.mutators owner object from numbers) old between
      (number_stores owner object from numbers) first
      → IsCollection between collected told
      → AreStoredUnless (numbers_refusal collected.heap.mutators owner object from numbers) collected
      new (number_stores owner object from numbers) status
      → (status ≢ 9) × (numbers_refusal old.heap.mutators owner object from numbers ≡ Some LogFull)
      × IsCollection old (collect_step old).0 (collect_step old).1
      × AreStoredUnless
      (numbers_refusal (collect_step old).0.heap.mutators owner object from numbers)
      (collect_step old).0 new (number_stores owner object from numbers) status
  AreStored-again old between collected new told first status nine full collects stored =
      let was = status-full (why old) old between given first full nine in
      let on = (full-places between.heap.mutators owner object from numbers
      (ap why was.1 ∙ was.0)).0 in
      let off = collects.outside (collects.flips.1 (inl on)) in (
        λ again. false≢true (sym off
            ∙ (full-places collected.heap.mutators owner object from numbers
            (status-full (why collected) collected new given status stored again).0).0),
        was.0,
        subst (λ (s : PacedState). IsCollection s (collect_step s).0 (collect_step s).1) was.1
            (subst (λ (s : PacedState). IsCollection between s (collect_step between).1) collects.state
            (subst (IsCollection between collected) collects.answer collects)),
        subst (λ (s : PacedState). AreStoredUnless (why s) s new given status)
            (collects.state ∙ ap (λ (s : PacedState). (collect_step s).0) was.1) stored,
      )
