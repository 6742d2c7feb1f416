use Rattle.rh_paced_trace.specs.Lines.{commands_in}
use Rattle.rh_paced_trace.proofs.TraceLines.{biggest-least, biggest_bounds, biggest_reached, biggest_at_most}
use Rattle.rh_paced_trace.proofs.laws.the_biggest_object_is_the_largest_that_a_line_allocates.Goals as goal

pub returns-clause-bound : goal.returns-clause-bound
returns-clause-bound c = biggest_bounds

pub returns-clause-reached : goal.returns-clause-reached
returns-clause-reached c = biggest_reached

pub returns-clause-range : goal.returns-clause-range
returns-clause-range c = λ requests. (biggest-least (commands_in requests), biggest_at_most (commands_in requests))
