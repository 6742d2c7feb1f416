use Rattle.rh_model.proofs.CommandEffects.{alloc-makes}
use Rattle.rh_model.proofs.laws.alloc_makes_an_object.Goals as goal

pub returns : goal.returns
returns c = λ p q formed owner. alloc-makes p q formed owner
