use Rattle.rh_trace_views.proofs.KeptLines.{kept_lines}
use Rattle.rh_trace_views.proofs.laws.a_history_keeps_the_commands_that_no_limit_refused.Goals as goal

pub returns : goal.returns
returns c = kept_lines
