use Rattle.rh_syntax.proofs.OneAnswer.{answer_text-injective}
use Rattle.rh_syntax.proofs.laws.each_text_is_of_one_answer.Goals as goal

pub returns : goal.returns
returns c = answer_text-injective
