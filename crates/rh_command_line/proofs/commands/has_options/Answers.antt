use Rattle.std.proofs.Common.{rules}
use Rattle.rh_command_line.proofs.commands.has_options.Goals as goal

pub returns-then-names_command : goal.returns-then-names_command
returns-then-names_command c = search rules
