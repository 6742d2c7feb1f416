use Rattle.rh_model.proofs.same_graphs.ReachedPaired.{reached_there, reached_here}
use Rattle.rh_model.proofs.laws.pairs_what_is_reached.Goals as goal

pub returns-clause-there : goal.returns-clause-there
returns-clause-there c = reached_there

pub returns-clause-back : goal.returns-clause-back
returns-clause-back c = reached_here
