use Rattle.std.proofs.Common.{◌∙◌}
use Rattle.rh_replay.proofs.Equals.{command_before_some}
use Rattle.rh_replay.proofs.reading.command_before.Goals as goal

pub returns-in-Some : goal.returns-in-Some
returns-in-Some c = c.owned_command.ensures ∙ command_before_some c.args.rest _ c.in-Some.is
