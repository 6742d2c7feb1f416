use Rattle.std.proofs.Common.{refl}
use Rattle.rh_trace.proofs.LinesAreEvents.{trays-of_request}
use Rattle.rh_trace.proofs.laws.runs.lines_that_are_no_events_leave_the_heap.Goals as goal

pub returns-clause-trays : goal.returns-clause-trays
returns-clause-trays c = λ e request other. trays-of_request e request other

pub returns-clause-heap : goal.returns-clause-heap
returns-clause-heap c = λ e into other. refl

pub returns-clause-listed : goal.returns-clause-listed
returns-clause-listed c = λ e. refl

pub returns-clause-counted : goal.returns-clause-counted
returns-clause-counted c = λ e. refl

pub returns-clause-dumped : goal.returns-clause-dumped
returns-clause-dumped c = λ e. refl
