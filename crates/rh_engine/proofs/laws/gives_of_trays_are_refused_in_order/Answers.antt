use Rattle.rh_engine.proofs.LineOrder.{give-refused, give-accepted, give-absent, give-trays}
use Rattle.rh_engine.proofs.laws.gives_of_trays_are_refused_in_order.Goals as goal

pub returns-clause-refused : goal.returns-clause-refused
returns-clause-refused c = give-refused

pub returns-clause-given : goal.returns-clause-given
returns-clause-given c = give-accepted

pub returns-clause-absent : goal.returns-clause-absent
returns-clause-absent c = give-absent

pub returns-clause-trays : goal.returns-clause-trays
returns-clause-trays c = give-trays
