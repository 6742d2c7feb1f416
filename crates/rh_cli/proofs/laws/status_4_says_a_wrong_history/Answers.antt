use Rattle.rh_commands.specs.lemmas.Statuses.{fault_at_most_4}
use Rattle.rh_cli.proofs.StatusLaws.{concludes_4, concludes_late, differs_is_4, wrong_is_4}
use Rattle.rh_cli.proofs.laws.status_4_says_a_wrong_history.Goals as goal

pub returns-clause-wrong : goal.returns-clause-wrong
returns-clause-wrong c = concludes_4

pub returns-clause-fault : goal.returns-clause-fault
returns-clause-fault c = differs_is_4

pub returns-clause-no_more : goal.returns-clause-no_more
returns-clause-no_more c = fault_at_most_4

pub returns-clause-most : goal.returns-clause-most
returns-clause-most c = λ subcommand input status old new ends. (concludes_late subcommand input status old new ends).0

pub returns-clause-ending : goal.returns-clause-ending
returns-clause-ending c = wrong_is_4
