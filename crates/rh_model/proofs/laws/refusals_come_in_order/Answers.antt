use Rattle.rh_model.proofs.RefusalOrder.{refusal_least, refusal_none}
use Rattle.rh_model.proofs.laws.refusals_come_in_order.Goals as goal

pub returns-clause-least : goal.returns-clause-least
returns-clause-least c = refusal_least

pub returns-clause-none : goal.returns-clause-none
returns-clause-none c = refusal_none
