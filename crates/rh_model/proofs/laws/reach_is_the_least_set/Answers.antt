use Rattle.rh_model.specs.Reach.{from_root}
use Rattle.rh_model.proofs.ReachedLeast.{Reached-closed, Reached-least}
use Rattle.rh_model.proofs.laws.reach_is_the_least_set.Goals as goal

pub returns-clause-roots : goal.returns-clause-roots
returns-clause-roots c = λ g r a is. from_root r a is

pub returns-clause-fields : goal.returns-clause-fields
returns-clause-fields c = Reached-closed

pub returns-clause-least : goal.returns-clause-least
returns-clause-least c = Reached-least
