use Rattle.rh_layout.specs.declared.command.Command.TheVariants.{Load}
use Rattle.rheap_c.proofs.SharedSlots.{shared-grown_done}
use Rattle.rheap_c.proofs.growing.shared.load_untold.Goals as goal

pub returns : goal.returns
returns c = shared-grown_done _ _ (λ k. Load (c.shared.ensures k) (c.shared-2.ensures k) c.args.field) _ _ _ c.load_untold.ensures
