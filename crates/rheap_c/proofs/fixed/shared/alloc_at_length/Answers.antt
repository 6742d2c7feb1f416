use Rattle.rh_layout.specs.declared.command.Command.TheVariants.{Alloc}
use Rattle.rheap_c.proofs.SharedSlots.{shared-done}
use Rattle.rheap_c.proofs.fixed.shared.alloc_at_length.Goals as goal

pub returns : goal.returns
returns c = shared-done _ _ (λ k. Alloc (c.shared.ensures k) c.args.fields) _ _ _ c.alloc_at_length.ensures
