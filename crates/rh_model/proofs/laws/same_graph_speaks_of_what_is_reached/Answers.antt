use Rattle.rh_model.proofs.same_graphs.SameGraphReached.{SameGraph-reached}
use Rattle.rh_model.proofs.laws.same_graph_speaks_of_what_is_reached.Goals as goal

pub returns : goal.returns
returns c = SameGraph-reached
