use Rattle.rh_dot.proofs.Same.{graph_same}
use Rattle.rh_dot.proofs.laws.each_text_is_of_one_graph.Goals as goal

pub returns : goal.returns
returns c = graph_same
