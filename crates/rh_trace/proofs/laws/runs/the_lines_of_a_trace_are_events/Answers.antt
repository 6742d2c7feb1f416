use Rattle.rh_trace.proofs.LinesAreEvents.{heap-after_requests, answer-of_request}
use Rattle.rh_trace.proofs.laws.runs.the_lines_of_a_trace_are_events.Goals as goal

pub returns-clause-heap : goal.returns-clause-heap
returns-clause-heap g c = heap-after_requests _

pub returns-clause-answer : goal.returns-clause-answer
returns-clause-answer g c = answer-of_request _
