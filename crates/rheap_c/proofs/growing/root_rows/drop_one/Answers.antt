use Rattle.std.proofs.Common.{refl}
use Rattle.rh_layout.specs.declared.command.Command.TheVariants.{Drop}
use Rattle.rheap_c.proofs.Quiet.{quiet-answer, quiet-state}
use Rattle.rheap_c.proofs.growing.root_rows.drop_one.Goals as goal

pub returns-clause-state : goal.returns-clause-state
returns-clause-state c = quiet-state c.drop.ensures.0 _ _ c.args.owner (Drop c.args.root) _ refl c.drop.ensures.1

pub returns-clause-answer : goal.returns-clause-answer
returns-clause-answer c = quiet-answer c.drop.ensures.0 _ _ c.args.owner (Drop c.args.root) _ refl c.drop.ensures.1
