use Rattle.rh_layout.specs.declared.command.Command.TheVariants.{Raw}
use Rattle.rheap_c.proofs.SharedSlots.{shared-insisted}
use Rattle.rheap_c.proofs.fixed.shared.insist_alloc_raw_at_length.Goals as goal

pub returns : goal.returns
returns c = shared-insisted _ _ (λ k. Raw (c.shared.ensures k) c.args.fields) _ _ _ c.insist_alloc_raw_at_length.ensures
