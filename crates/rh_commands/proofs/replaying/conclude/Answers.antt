use Rattle.std.proofs.Common.{rules}
use Rattle.rh_commands.proofs.replaying.conclude.Goals as goal

pub returns-in-Ok-Wrong-clause-status : goal.returns-in-Ok-Wrong-clause-status
returns-in-Ok-Wrong-clause-status g = search rules
