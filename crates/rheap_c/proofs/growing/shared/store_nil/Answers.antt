use Rattle.rh_layout.specs.declared.command.Command.TheVariants.{Store}
use Rattle.rh_layout.specs.declared.command.Operand.TheVariants.{Nil}
use Rattle.rheap_c.proofs.SharedSlots.{shared-grown_done}
use Rattle.rheap_c.proofs.growing.shared.store_nil.Goals as goal

pub returns : goal.returns
returns c = shared-grown_done _ _ (λ k. Store (c.shared.ensures k) c.args.field Nil) _ _ _ c.store_nil.ensures
