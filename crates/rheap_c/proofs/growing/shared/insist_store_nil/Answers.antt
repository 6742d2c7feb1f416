use Rattle.rh_layout.specs.declared.command.Command.TheVariants.{Store}
use Rattle.rh_layout.specs.declared.command.Operand.TheVariants.{Nil}
use Rattle.rheap_c.proofs.SharedSlots.{shared-grown_insisted}
use Rattle.rheap_c.proofs.growing.shared.insist_store_nil.Goals as goal

pub returns : goal.returns
returns c = shared-grown_insisted _ _ (λ k. Store (c.shared.ensures k) c.args.field Nil) _ _ _ c.insist_store_nil.ensures
