use Rattle.rh_model.proofs.same_graphs.SameValueEqual.{same_value-exact}
use Rattle.rh_model.proofs.laws.same_value_is_equality.Goals as goal

pub returns : goal.returns
returns c = same_value-exact
