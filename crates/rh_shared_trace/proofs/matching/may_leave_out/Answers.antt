use Rattle.std.proofs.Common.{rules}
use Rattle.rh_shared_trace.proofs.matching.may_leave_out.Goals as goal

pub returns-else-is_full : goal.returns-else-is_full
returns-else-is_full c = search rules
