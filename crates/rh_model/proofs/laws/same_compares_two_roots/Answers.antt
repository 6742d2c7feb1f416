use Rattle.rh_model.proofs.CommandEffects.{same-compares}
use Rattle.rh_model.proofs.laws.same_compares_two_roots.Goals as goal

pub returns : goal.returns
returns c = same-compares
