use Rattle.rh_model.proofs.CommandEffects.{load-reads}
use Rattle.rh_model.proofs.laws.load_reads_a_field.Goals as goal

pub returns : goal.returns
returns c = λ p q formed owner. load-reads p q formed owner
