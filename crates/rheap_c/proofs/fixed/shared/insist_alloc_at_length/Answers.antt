use Rattle.rh_layout.specs.declared.command.Command.TheVariants.{Alloc}
use Rattle.rheap_c.proofs.SharedSlots.{shared-insisted}
use Rattle.rheap_c.proofs.fixed.shared.insist_alloc_at_length.Goals as goal

pub returns : goal.returns
returns c = shared-insisted _ _ (λ k. Alloc (c.shared.ensures k) c.args.fields) _ _ _ c.insist_alloc_at_length.ensures
