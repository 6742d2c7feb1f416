use Rattle.rh_layout.specs.declared.command.Command.TheVariants.{Store}
use Rattle.rh_layout.specs.declared.command.Operand.TheVariants.{Nil}
use Rattle.rheap_c.proofs.SharedSlots.{shared-done}
use Rattle.rheap_c.proofs.fixed.shared.store_nil_at_length.Goals as goal

pub returns : goal.returns
returns c = shared-done _ _ (λ k. Store (c.shared.ensures k) c.args.field Nil) _ _ _ c.store_nil_at_length.ensures
