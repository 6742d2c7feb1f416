-- A number that is handed on from one call to another is the same number.
use Rattle.std.proofs.Common.{◌≡◌, ℕ, ℤ, Option, subst}
use Rattle.rh_layout.specs.declared.command.Command.TheVariants.{Store}
use Rattle.rh_layout.specs.declared.command.Operand.TheVariants.{Int}
use Rattle.rh_layout.specs.declared.command.RootId.{RootId}
use Rattle.rh_pace.specs.Paced.{PacedState}
use Rattle.rh_growing.specs.Growing.{GrowingState}
use Rattle.rheap_c.specs.Called.{IsDone}
use Rattle.rheap_c.specs.Grown.{IsGrownDone, IsGrownInsisted}
use Rattle.rheap_c.specs.Insisted.{IsInsisted}

module _ (n m : ℤ) (same : n ≡ m) (owner : ℕ) (object : RootId) (field status : ℕ) where
  pub number-done : (old new : Option PacedState) → IsDone old new owner (Store object field (Int n)) status
      → IsDone old new owner (Store object field (Int m)) status
  number-done old new = subst (λ (i : ℤ). IsDone old new owner (Store object field (Int i)) status) same

  pub number-insisted : (old new : Option PacedState) → IsInsisted old new owner (Store object field (Int n)) status
      → IsInsisted old new owner (Store object field (Int m)) status
  number-insisted old new = subst (λ (i : ℤ). IsInsisted old new owner (Store object field (Int i)) status) same

  pub number-grown_done : (old new : Option GrowingState) → IsGrownDone old new owner (Store object field (Int n)) status
      → IsGrownDone old new owner (Store object field (Int m)) status
  number-grown_done old new = subst (λ (i : ℤ). IsGrownDone old new owner (Store object field (Int i)) status) same

  pub number-grown_insisted : (old new : Option GrowingState) → IsGrownInsisted old new owner (Store object field (Int n)) status
      → IsGrownInsisted old new owner (Store object field (Int m)) status
  number-grown_insisted old new = subst (λ (i : ℤ). IsGrownInsisted old new owner (Store object field (Int i)) status) same
