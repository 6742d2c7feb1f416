use Rattle.rh_replay.proofs.FirstCalls.{legal_below, first_wrong_answer}
use Rattle.rh_replay.proofs.laws.a_wrong_call_is_counted_from_1.Goals as goal

pub returns-clause-counted : goal.returns-clause-counted
returns-clause-counted c = legal_below

pub returns-clause-answered : goal.returns-clause-answered
returns-clause-answered c = first_wrong_answer
