use Rattle.rh_model.proofs.same_graphs.SameGraphReflexive.{SameGraph-reflexive}
use Rattle.rh_model.proofs.laws.same_graph_is_reflexive.Goals as goal

pub returns : goal.returns
returns c = SameGraph-reflexive
