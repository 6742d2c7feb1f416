use Rattle.rh_engine.proofs.TicketOrder.{tickets-refused, tickets-accepted, tickets-trays}
use Rattle.rh_engine.proofs.laws.room_for_tickets_is_refused_in_order.Goals as goal

pub returns-clause-refused : goal.returns-clause-refused
returns-clause-refused c = tickets-refused

pub returns-clause-made : goal.returns-clause-made
returns-clause-made c = tickets-accepted

pub returns-clause-trays : goal.returns-clause-trays
returns-clause-trays c = tickets-trays
