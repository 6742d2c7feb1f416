use Rattle.rh_commands.proofs.RepliesTold.{told_growing, told_paced}
use Rattle.rh_commands.proofs.laws.viewed.as_answers_commands_are_told_as_they_are_written.Goals as goal

pub returns-clause-paced : goal.returns-clause-paced
returns-clause-paced c = told_paced

pub returns-clause-growing : goal.returns-clause-growing
returns-clause-growing c = told_growing
