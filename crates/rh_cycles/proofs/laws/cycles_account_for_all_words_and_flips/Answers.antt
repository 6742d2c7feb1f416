use Rattle.rh_cycles.proofs.Sums.{all-counted}
use Rattle.rh_cycles.proofs.laws.cycles_account_for_all_words_and_flips.Goals as goal

pub returns-clause-words : goal.returns-clause-words
returns-clause-words c = λ r steps whole are. (all-counted steps r whole are).0

pub returns-clause-flips : goal.returns-clause-flips
returns-clause-flips c = λ r steps whole are. (all-counted steps r whole are).1
