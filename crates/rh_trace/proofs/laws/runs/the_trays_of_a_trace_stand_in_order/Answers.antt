use Rattle.rh_trace.specs.Run.{engine_after, new_run}
use Rattle.rh_trace.proofs.TraysInOrder.{order-after_requests, order-none, places-tray}
use Rattle.rh_trace.proofs.laws.runs.the_trays_of_a_trace_stand_in_order.Goals as goal

pub returns-clause-stay : goal.returns-clause-stay
returns-clause-stay c = order-after_requests

pub returns-clause-run : goal.returns-clause-run
returns-clause-run c = λ script requests. order-after_requests (new_run script) requests order-none

pub returns-clause-places : goal.returns-clause-places
returns-clause-places c = λ script requests name t there. places-tray (engine_after (new_run script) requests).trays name t (order-after_requests (new_run script) requests order-none) there
