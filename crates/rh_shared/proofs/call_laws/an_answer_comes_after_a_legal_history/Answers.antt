use Rattle.rh_shared.proofs.ComingAnswers.{answer-comes}
use Rattle.rh_shared.proofs.call_laws.an_answer_comes_after_a_legal_history.Goals as goal

pub returns : goal.returns
returns g c = answer-comes
