use Rattle.rh_model.proofs.CommandEffects.{drop-makes_nil}
use Rattle.rh_model.proofs.laws.drop_makes_a_root_nil.Goals as goal

pub returns : goal.returns
returns c = λ p q formed owner. drop-makes_nil p q formed owner
