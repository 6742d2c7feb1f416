use Rattle.rh_engine.proofs.ResizeOrder.{resize-refused, resize-accepted, resize-limit, resize-trays}
use Rattle.rh_engine.proofs.laws.resizes_are_refused_in_order.Goals as goal

pub returns-clause-refused : goal.returns-clause-refused
returns-clause-refused c = resize-refused

pub returns-clause-resized : goal.returns-clause-resized
returns-clause-resized c = resize-accepted

pub returns-clause-limit : goal.returns-clause-limit
returns-clause-limit c = resize-limit

pub returns-clause-trays : goal.returns-clause-trays
returns-clause-trays c = resize-trays
