use Rattle.rh_engine.proofs.LineOrder.{join-refused, join-accepted}
use Rattle.rh_engine.proofs.laws.joins_of_trays_are_refused_in_order.Goals as goal

pub returns-clause-refused : goal.returns-clause-refused
returns-clause-refused c = join-refused

pub returns-clause-joined : goal.returns-clause-joined
returns-clause-joined c = join-accepted
