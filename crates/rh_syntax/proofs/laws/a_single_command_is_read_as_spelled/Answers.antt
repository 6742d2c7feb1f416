use Rattle.rh_syntax.specs.lemmas.ReadIsSpelled.{single_command-means}
use Rattle.rh_syntax.specs.lemmas.SpelledIsRead.{single_command-text}
use Rattle.rh_syntax.specs.lemmas.FirstFault.{first_fault_of_single, no_fault_of_single}
use Rattle.rh_syntax.proofs.laws.a_single_command_is_read_as_spelled.Goals as goal

pub returns-clause-spelled : goal.returns-clause-spelled
returns-clause-spelled c = single_command-text

pub returns-clause-read : goal.returns-clause-read
returns-clause-read c = λ line owner command e. single_command-means line (owner, command) e

pub returns-clause-first : goal.returns-clause-first
returns-clause-first c = first_fault_of_single

pub returns-clause-none : goal.returns-clause-none
returns-clause-none c = no_fault_of_single
