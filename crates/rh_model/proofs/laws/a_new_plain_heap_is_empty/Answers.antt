use Rattle.rh_model.proofs.StaysWellFormed.{root_value-empty}
use Rattle.rh_model.proofs.same_graphs.SameGraphReached.{SameGraph-empty}
use Rattle.rh_model.proofs.laws.a_new_plain_heap_is_empty.Goals as goal

pub returns-clause-roots : goal.returns-clause-roots
returns-clause-roots c = root_value-empty

pub returns-clause-alike : goal.returns-clause-alike
returns-clause-alike c = SameGraph-empty
