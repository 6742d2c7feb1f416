use Rattle.rh_trace_views.proofs.ScriptRuns.{ends_plainly}
use Rattle.rh_trace_views.proofs.laws.a_viewed_run_ends_as_its_input_says.Goals as goal

pub returns : goal.returns
returns g c = ends_plainly
