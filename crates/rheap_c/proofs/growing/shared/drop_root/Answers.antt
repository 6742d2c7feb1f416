use Rattle.rh_layout.specs.declared.command.Command.TheVariants.{Drop}
use Rattle.rheap_c.proofs.SharedSlots.{shared-grown_done}
use Rattle.rheap_c.proofs.growing.shared.drop_root.Goals as goal

pub returns : goal.returns
returns c = shared-grown_done _ _ (λ k. Drop (c.shared.ensures k)) _ _ _ c.drop_root.ensures
