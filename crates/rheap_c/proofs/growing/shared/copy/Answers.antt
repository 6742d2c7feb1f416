use Rattle.rh_layout.specs.declared.command.Command.TheVariants.{Copy}
use Rattle.rheap_c.proofs.SharedSlots.{shared-grown_done}
use Rattle.rheap_c.proofs.growing.shared.copy.Goals as goal

pub returns : goal.returns
returns c = shared-grown_done _ _ (λ k. Copy (c.shared.ensures k) (c.shared-2.ensures k)) _ _ _ c.copy.ensures
