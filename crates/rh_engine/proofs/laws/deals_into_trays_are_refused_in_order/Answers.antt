use Rattle.rh_engine.proofs.DealOrder.{deal-refused, deal-accepted}
use Rattle.rh_engine.proofs.laws.deals_into_trays_are_refused_in_order.Goals as goal

pub returns-clause-refused : goal.returns-clause-refused
returns-clause-refused c = deal-refused

pub returns-clause-dealt : goal.returns-clause-dealt
returns-clause-dealt c = deal-accepted
