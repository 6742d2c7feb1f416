use Rattle.rh_paced_trace.proofs.Programs.{paced-lines}
use Rattle.rh_paced_trace.proofs.laws.a_trace_is_a_program.Goals as goal

pub returns : goal.returns
returns c = λ s commands. paced-lines commands s
