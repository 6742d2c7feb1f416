use Rattle.rh_layout.specs.declared.command.Command.TheVariants.{Alloc}
use Rattle.rheap_c.proofs.SharedSlots.{shared-grown_done}
use Rattle.rheap_c.proofs.growing.shared.alloc.Goals as goal

pub returns : goal.returns
returns c = shared-grown_done _ _ (λ k. Alloc (c.shared.ensures k) c.args.fields) _ _ _ c.alloc.ensures
