use Rattle.rh_layout.specs.declared.command.Command.TheVariants.{Raw}
use Rattle.rheap_c.proofs.SharedSlots.{shared-grown_insisted}
use Rattle.rheap_c.proofs.growing.shared.insist_alloc_raw.Goals as goal

pub returns : goal.returns
returns c = shared-grown_insisted _ _ (λ k. Raw (c.shared.ensures k) c.args.fields) _ _ _ c.insist_alloc_raw.ensures
