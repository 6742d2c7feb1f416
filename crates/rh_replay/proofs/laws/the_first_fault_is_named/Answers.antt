use Rattle.rh_replay.proofs.FirstFault.{first_fault, no_fault_of_history}
use Rattle.rh_replay.proofs.laws.the_first_fault_is_named.Goals as goal

pub returns-clause-first : goal.returns-clause-first
returns-clause-first c = first_fault

pub returns-clause-none : goal.returns-clause-none
returns-clause-none c = no_fault_of_history
