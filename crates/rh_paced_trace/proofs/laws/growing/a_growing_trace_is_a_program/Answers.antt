use Rattle.rh_paced_trace.proofs.Programs.{growing-lines}
use Rattle.rh_paced_trace.proofs.laws.growing.a_growing_trace_is_a_program.Goals as goal

pub returns : goal.returns
returns c = λ given s commands. growing-lines commands given s
