use Rattle.rh_commands.proofs.ViewEnds.{view-ends-growing}
use Rattle.rh_commands.proofs.laws.viewed.a_viewed_growing_run_ends_as_its_input_says.Goals as goal

pub returns : goal.returns
returns c = λ at_most telling input result old new ends. view-ends-growing at_most telling input old new result ends
