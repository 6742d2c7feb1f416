use Rattle.std.proofs.Common.{refl}
use Rattle.clap.specs.Words.{kind_of}
use Rattle.rh_cli.proofs.StatusLaws.{concludes_late, only_the_line_is_2, help_is_0, no_help_is_2}
use Rattle.rh_cli.proofs.laws.status_2_says_that_the_command_line_is_not_understood.Goals as goal

pub returns-clause-never : goal.returns-clause-never
returns-clause-never c = λ subcommand input status old new ends. (concludes_late subcommand input status old new ends).1

pub returns-clause-only : goal.returns-clause-only
returns-clause-only c = only_the_line_is_2

pub returns-clause-no_text : goal.returns-clause-no_text
returns-clause-no_text c = refl

pub returns-clause-incomplete : goal.returns-clause-incomplete
returns-clause-incomplete c = refl

pub returns-clause-asked : goal.returns-clause-asked
returns-clause-asked c = λ error is. help_is_0 (kind_of error) is

pub returns-clause-refused : goal.returns-clause-refused
returns-clause-refused c = λ error help version. no_help_is_2 (kind_of error) help version

pub returns-clause-mark : goal.returns-clause-mark
returns-clause-mark c = refl

pub returns-clause-replicators : goal.returns-clause-replicators
returns-clause-replicators c = refl

pub returns-clause-idle : goal.returns-clause-idle
returns-clause-idle c = refl

pub returns-clause-grow : goal.returns-clause-grow
returns-clause-grow c = refl

pub returns-clause-line : goal.returns-clause-line
returns-clause-line c = refl

pub returns-clause-shell : goal.returns-clause-shell
returns-clause-shell c = refl

pub returns-clause-views : goal.returns-clause-views
returns-clause-views c = refl

pub returns-clause-words : goal.returns-clause-words
returns-clause-words c = refl

pub returns-clause-steps : goal.returns-clause-steps
returns-clause-steps c = refl

pub returns-clause-forms : goal.returns-clause-forms
returns-clause-forms c = refl

pub returns-clause-object : goal.returns-clause-object
returns-clause-object c = refl

pub returns-clause-events : goal.returns-clause-events
returns-clause-events c = refl
