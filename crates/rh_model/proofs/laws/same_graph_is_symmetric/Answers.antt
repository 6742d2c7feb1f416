use Rattle.rh_model.proofs.same_graphs.SameGraphSymmetric.{SameGraph-symmetric, SameGraph-plain_symmetric}
use Rattle.rh_model.proofs.laws.same_graph_is_symmetric.Goals as goal

pub returns-clause-limited : goal.returns-clause-limited
returns-clause-limited c = SameGraph-symmetric

pub returns-clause-plain : goal.returns-clause-plain
returns-clause-plain c = SameGraph-plain_symmetric
