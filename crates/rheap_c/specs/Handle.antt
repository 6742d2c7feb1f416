-- A call on a handle, which keeps a heap of fixed sizes or one that grows.
use Rattle.std.specs.Prelude.{◌≡◌, ◌⊎◌, ℕ, Option, Some, None}
use Rattle.rh_pace.specs.Paced.{PacedState}
use Rattle.rh_growing.specs.Growing.{GrowingState}
use Rattle.rheap_c.specs.declared.handle.Rheap.{Rheap}

-- A call that does this on a heap of fixed sizes and that on one that grows, by the states before
-- and after it of the two parts of a handle: it is the first where a heap of fixed sizes is open,
-- and else the second. The other part stays as it is.
unfoldable pub CallsOnParts : (Option PacedState → Option PacedState → Type 0)
    → (Option GrowingState → Option GrowingState → Type 0)
    → Option PacedState → Option GrowingState → Option PacedState → Option GrowingState → Type 0
CallsOnParts Fixed Growing (Some s) g new_fixed new_growing =
    Fixed (Some s) new_fixed × (new_growing ≡ g)
CallsOnParts Fixed Growing None g new_fixed new_growing = (new_fixed ≡ None) × Growing g new_growing

-- the same by the handle
abbrev pub Calls : (Option PacedState → Option PacedState → Type 0)
    → (Option GrowingState → Option GrowingState → Type 0) → Rheap → Rheap → Type 0
Calls Fixed Growing old new =
    CallsOnParts Fixed Growing old.fixed.state old.growing.state new.fixed.state new.growing.state

-- A call that opens a heap of fixed sizes: nothing, with status 13, where one that grows is open.
unfoldable pub OpensFixedOnParts : (Option PacedState → Option PacedState → Type 0)
    → Option PacedState → Option GrowingState → Option PacedState → Option GrowingState → ℕ → Type 0
OpensFixedOnParts Opens fixed (Some g) new_fixed new_growing status =
    (new_fixed ≡ fixed) × (new_growing ≡ Some g) × (status ≡ 13)
OpensFixedOnParts Opens fixed None new_fixed new_growing status =
    Opens fixed new_fixed × (new_growing ≡ None)

abbrev pub OpensFixed : (Option PacedState → Option PacedState → Type 0) → Rheap → Rheap → ℕ
    → Type 0
OpensFixed Opens old new status = OpensFixedOnParts Opens
    old.fixed.state old.growing.state new.fixed.state new.growing.state status

-- A call that opens one that grows: nothing, with status 13, where one of fixed sizes is open.
unfoldable pub OpensGrowingOnParts : (Option GrowingState → Option GrowingState → Type 0)
    → Option PacedState → Option GrowingState → Option PacedState → Option GrowingState → ℕ → Type 0
OpensGrowingOnParts Opens (Some s) growing new_fixed new_growing status =
    (new_fixed ≡ Some s) × (new_growing ≡ growing) × (status ≡ 13)
OpensGrowingOnParts Opens None growing new_fixed new_growing status =
    (new_fixed ≡ None) × Opens growing new_growing

abbrev pub OpensGrowing : (Option GrowingState → Option GrowingState → Type 0) → Rheap → Rheap → ℕ
    → Type 0
OpensGrowing Opens old new status = OpensGrowingOnParts Opens
    old.fixed.state old.growing.state new.fixed.state new.growing.state status

-- The handle holds one heap at most.
abbrev pub HoldsOne : Rheap → Type 0
HoldsOne h = (h.fixed.state ≡ None) ⊎ (h.growing.state ≡ None)
