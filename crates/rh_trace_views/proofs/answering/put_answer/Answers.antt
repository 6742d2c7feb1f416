use Rattle.std.proofs.Common.{rules}
use Rattle.rh_trace_views.proofs.answering.put_answer.Goals as goal

pub returns : goal.returns
returns g c = search rules
