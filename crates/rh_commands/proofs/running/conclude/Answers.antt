use Rattle.std.proofs.Common.{rules}
use Rattle.rh_commands.proofs.running.conclude.Goals as goal

pub returns-in-Ok-2-clause-done : goal.returns-in-Ok-2-clause-done
returns-in-Ok-2-clause-done g = search rules
