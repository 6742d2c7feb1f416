use Rattle.std.proofs.Common.{rules}
use Rattle.rh_commands.proofs.replaying.report_on.Goals as goal

pub returns-in-Ok-report-clause-ends : goal.returns-in-Ok-report-clause-ends
returns-in-Ok-report-clause-ends g c = search rules
