use Rattle.rh_model.proofs.CommandEffects.{copy-copies}
use Rattle.rh_model.proofs.laws.copy_copies_a_root.Goals as goal

pub returns : goal.returns
returns c = λ p q formed owner. copy-copies p q formed owner
