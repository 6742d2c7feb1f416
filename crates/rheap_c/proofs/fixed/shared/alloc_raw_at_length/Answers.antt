use Rattle.rh_layout.specs.declared.command.Command.TheVariants.{Raw}
use Rattle.rheap_c.proofs.SharedSlots.{shared-done}
use Rattle.rheap_c.proofs.fixed.shared.alloc_raw_at_length.Goals as goal

pub returns : goal.returns
returns c = shared-done _ _ (λ k. Raw (c.shared.ensures k) c.args.fields) _ _ _ c.alloc_raw_at_length.ensures
