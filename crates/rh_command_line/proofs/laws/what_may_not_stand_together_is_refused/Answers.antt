use Rattle.std.proofs.Common.{refl}
use Rattle.clap.proofs.OnLiterals.{clap_on_literals}
use Rattle.rh_command_line.specs.Ask.{command_and_file_of, stands_on}
use Rattle.rh_command_line.proofs.Together.{stand_both, stands_alone}
use Rattle.rh_command_line.proofs.laws.what_may_not_stand_together_is_refused.Goals as goal

pub returns-clause-needs : goal.returns-clause-needs
unfolding command_and_file_of stands_on
returns-clause-needs c = λ line. stands_alone _

pub returns-clause-not_with : goal.returns-clause-not_with
unfolding command_and_file_of stands_on
returns-clause-not_with c = λ line. stand_both _

pub returns-clause-option : goal.returns-clause-option
unfolding stands_on clap_on_literals
returns-clause-option c = refl

pub returns-clause-flag : goal.returns-clause-flag
unfolding stands_on clap_on_literals
returns-clause-flag c = refl
