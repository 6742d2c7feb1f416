use Rattle.rh_paced_trace.proofs.WayEnds.{ends-paced}
use Rattle.rh_paced_trace.proofs.laws.ways.a_paced_run_ends_as_its_input_says.Goals as goal

pub returns : goal.returns
returns c = λ mark input result old new. ends-paced mark input old new result
