use Rattle.rh_layout.specs.declared.command.Command.TheVariants.{Store}
use Rattle.rh_layout.specs.declared.command.Operand.TheVariants.{Root}
use Rattle.rheap_c.proofs.SharedSlots.{shared-grown_insisted}
use Rattle.rheap_c.proofs.growing.shared.insist_store_root.Goals as goal

pub returns : goal.returns
returns c = shared-grown_insisted _ _ (λ k. Store (c.shared.ensures k) c.args.field (Root (c.shared-2.ensures k))) _ _ _ c.insist_store_root.ensures
