use Rattle.std.proofs.Common.{refl}
use Rattle.rh_command_line.proofs.table.commands.Goals as goal

pub returns : goal.returns
returns c = refl
