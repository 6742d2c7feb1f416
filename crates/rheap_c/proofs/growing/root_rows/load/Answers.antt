use Rattle.std.proofs.Common.{refl}
use Rattle.rh_layout.specs.declared.command.Command.TheVariants.{Load}
use Rattle.rheap_c.proofs.Quiet.{quiet-answer, quiet-state}
use Rattle.rheap_c.proofs.growing.root_rows.load.Goals as goal

pub returns-clause-state : goal.returns-clause-state
returns-clause-state c = quiet-state c.load.ensures.0 _ _ c.args.owner (Load c.args.dst c.args.src c.args.field) _ refl c.load.ensures.1

pub returns-clause-answer : goal.returns-clause-answer
returns-clause-answer c = quiet-answer c.load.ensures.0 _ _ c.args.owner (Load c.args.dst c.args.src c.args.field) _ refl c.load.ensures.1
