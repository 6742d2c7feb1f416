use Rattle.rh_model.proofs.CommandEffects.{raw-makes}
use Rattle.rh_model.proofs.laws.raw_makes_a_raw_object.Goals as goal

pub returns : goal.returns
returns c = λ p q formed owner. raw-makes p q formed owner
