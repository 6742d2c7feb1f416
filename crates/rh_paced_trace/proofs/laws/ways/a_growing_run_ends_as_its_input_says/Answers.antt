use Rattle.rh_paced_trace.proofs.WayEnds.{ends-growing}
use Rattle.rh_paced_trace.proofs.laws.ways.a_growing_run_ends_as_its_input_says.Goals as goal

pub returns : goal.returns
returns c = λ at_most input result old new. ends-growing at_most input old new result
