use Rattle.rh_trace.proofs.TraceParts.{engine_after-parts, answers_to-parts}
use Rattle.rh_trace.proofs.laws.runs.a_trace_stands_in_parts.Goals as goal

pub returns-clause-engine : goal.returns-clause-engine
returns-clause-engine c = engine_after-parts

pub returns-clause-answered : goal.returns-clause-answered
returns-clause-answered c = answers_to-parts
