use Rattle.std.proofs.Common.{rules}
use Rattle.rh_shared_trace.proofs.writing.write_checked.Goals as goal

pub returns-in-Ok-clause-ends : goal.returns-in-Ok-clause-ends
returns-in-Ok-clause-ends g c = search rules
