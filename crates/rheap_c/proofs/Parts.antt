-- What a call on a handle says, from what it did on one of the two parts.
use Rattle.std.proofs.Common.{◌≡◌, ℕ, Bool, true, false, Option, Some, None, refl, sym, subst, ◌∙◌}
use Rattle.std.specs.Prelude.{is_none}
use Rattle.std.proofs.lemmas.Bool.{true≢false}
use Rattle.rh_pace.specs.Paced.{PacedState}
use Rattle.rh_growing.specs.Growing.{GrowingState}
use Rattle.rheap_c.specs.Handle.{CallsOnParts, OpensFixedOnParts, OpensGrowingOnParts}

module _ (Fixed : Option PacedState → Option PacedState → Type 0) (Growing : Option GrowingState → Option GrowingState → Type 0) where
  -- A heap of fixed sizes is open.
  pub Calls-fixed : (old mid new : Option PacedState) (g new_g : Option GrowingState) (empty : Bool) → empty ≡ is_none old → empty ≡ false → mid ≡ old
      → Fixed mid new → new_g ≡ g → CallsOnParts Fixed Growing old g new new_g
  unfolding CallsOnParts
  Calls-fixed None mid new g new_g empty is there kept done same = absurd (true≢false (sym is ∙ there))
  Calls-fixed (Some s) mid new g new_g empty is there kept done same = (subst (λ (o : Option PacedState). Fixed o new) kept done, same)

  -- None is.
  pub Calls-growing : (old mid : Option PacedState) (g new_g : Option GrowingState) (empty : Bool) → empty ≡ is_none old → empty ≡ true → mid ≡ old
      → Growing g new_g → CallsOnParts Fixed Growing old g mid new_g
  unfolding CallsOnParts
  Calls-growing None mid g new_g empty is shut kept done = (kept, done)
  Calls-growing (Some s) mid g new_g empty is shut kept done = absurd (true≢false (sym shut ∙ is))

  -- The same the other way.
  pub Calls-of_fixed : (old new : Option PacedState) (g new_g : Option GrowingState) (s : PacedState)
      → CallsOnParts Fixed Growing old g new new_g → old ≡ Some s → Fixed (Some s) new × (new_g ≡ g)
  unfolding CallsOnParts
  Calls-of_fixed old new g new_g s called held = subst (λ (o : Option PacedState). CallsOnParts Fixed Growing o g new new_g) held called

  pub Calls-of_growing : (old new : Option PacedState) (g new_g : Option GrowingState)
      → CallsOnParts Fixed Growing old g new new_g → old ≡ None → (new ≡ None) × Growing g new_g
  unfolding CallsOnParts
  Calls-of_growing old new g new_g called none = subst (λ (o : Option PacedState). CallsOnParts Fixed Growing o g new new_g) none called

module _ (Opens : Option PacedState → Option PacedState → Type 0) where
  -- A heap that grows is open.
  pub Opens-not_fixed : (s : Option PacedState) (old mid : Option GrowingState) (empty : Bool) → empty ≡ is_none old → empty ≡ false → mid ≡ old
      → OpensFixedOnParts Opens s old s mid 13
  unfolding OpensFixedOnParts
  Opens-not_fixed s None mid empty is there kept = absurd (true≢false (sym is ∙ there))
  Opens-not_fixed s (Some g) mid empty is there kept = (refl, kept, refl)

  pub Opens-fixed : (s new : Option PacedState) (old mid : Option GrowingState) (empty : Bool) (status : ℕ) → empty ≡ is_none old → empty ≡ true → mid ≡ old
      → Opens s new → OpensFixedOnParts Opens s old new mid status
  unfolding OpensFixedOnParts
  Opens-fixed s new None mid empty status is shut kept done = (done, kept)
  Opens-fixed s new (Some g) mid empty status is shut kept done = absurd (true≢false (sym shut ∙ is))

module _ (Opens : Option GrowingState → Option GrowingState → Type 0) where
  -- A heap of fixed sizes is open.
  pub Opens-not_growing : (g : Option GrowingState) (old mid : Option PacedState) (empty : Bool) → empty ≡ is_none old → empty ≡ false → mid ≡ old
      → OpensGrowingOnParts Opens old g mid g 13
  unfolding OpensGrowingOnParts
  Opens-not_growing g None mid empty is there kept = absurd (true≢false (sym is ∙ there))
  Opens-not_growing g (Some s) mid empty is there kept = (kept, refl, refl)

  pub Opens-growing : (g new : Option GrowingState) (old mid : Option PacedState) (empty : Bool) (status : ℕ) → empty ≡ is_none old → empty ≡ true → mid ≡ old
      → Opens g new → OpensGrowingOnParts Opens old g mid new status
  unfolding OpensGrowingOnParts
  Opens-growing g new None mid empty status is shut kept done = (kept, done)
  Opens-growing g new (Some s) mid empty status is shut kept done = absurd (true≢false (sym shut ∙ is))
