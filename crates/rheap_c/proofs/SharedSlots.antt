-- A call by owner 0 on the slots that their numbers name.
use Rattle.std.proofs.Common.{◌≡◌, ℕ, Option, subst}
use Rattle.rh_layout.specs.declared.command.Command.{Command}
use Rattle.rh_pace.specs.Paced.{PacedState}
use Rattle.rh_growing.specs.Growing.{GrowingState}
use Rattle.rheap_c.specs.Called.{IsDone}
use Rattle.rheap_c.specs.Grown.{IsGrownDone, IsGrownInsisted}
use Rattle.rheap_c.specs.Insisted.{IsInsisted}

module _ (asked command : Command) (same : asked ≡ command) (status : ℕ) where
  pub shared-done : (old new : Option PacedState) → IsDone old new 0 asked status → IsDone old new 0 command status
  shared-done old new = subst (λ (c : Command). IsDone old new 0 c status) same

  pub shared-insisted : (old new : Option PacedState) → IsInsisted old new 0 asked status → IsInsisted old new 0 command status
  shared-insisted old new = subst (λ (c : Command). IsInsisted old new 0 c status) same

  pub shared-grown_done : (old new : Option GrowingState) → IsGrownDone old new 0 asked status → IsGrownDone old new 0 command status
  shared-grown_done old new = subst (λ (c : Command). IsGrownDone old new 0 c status) same

  pub shared-grown_insisted : (old new : Option GrowingState) → IsGrownInsisted old new 0 asked status → IsGrownInsisted old new 0 command status
  shared-grown_insisted old new = subst (λ (c : Command). IsGrownInsisted old new 0 c status) same
