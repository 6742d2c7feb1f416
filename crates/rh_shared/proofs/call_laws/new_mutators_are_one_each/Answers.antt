use Rattle.rh_shared.proofs.Differences.{first_mutators-one_each}
use Rattle.rh_shared.proofs.call_laws.new_mutators_are_one_each.Goals as goal

pub returns : goal.returns
returns c = λ owners slots limit. first_mutators-one_each owners slots limit owners
