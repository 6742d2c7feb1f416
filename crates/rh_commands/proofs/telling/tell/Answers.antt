use Rattle.std.proofs.Common.{rules}
use Rattle.rh_commands.proofs.telling.tell.Goals as goal

pub returns : goal.returns
returns g c = search rules
