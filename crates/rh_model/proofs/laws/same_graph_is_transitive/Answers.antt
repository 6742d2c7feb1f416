use Rattle.rh_model.proofs.same_graphs.SameGraphTransitive.{SameGraph-transitive}
use Rattle.rh_model.proofs.laws.same_graph_is_transitive.Goals as goal

pub returns : goal.returns
returns c = SameGraph-transitive
