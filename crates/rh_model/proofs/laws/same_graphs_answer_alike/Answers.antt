use Rattle.rh_model.specs.lemmas.SameGraph.{refusal_of-same, reply_to-same}
use Rattle.rh_model.proofs.laws.same_graphs_answer_alike.Goals as goal

pub returns-clause-refusals : goal.returns-clause-refusals
returns-clause-refusals c = λ g h s owners slots. refusal_of-same s.1 owners slots

pub returns-clause-replies : goal.returns-clause-replies
returns-clause-replies c = λ g h s. reply_to-same s.1
