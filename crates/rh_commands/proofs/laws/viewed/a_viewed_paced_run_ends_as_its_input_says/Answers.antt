use Rattle.rh_commands.proofs.ViewEnds.{view-ends-paced}
use Rattle.rh_commands.proofs.laws.viewed.a_viewed_paced_run_ends_as_its_input_says.Goals as goal

pub returns : goal.returns
returns c = λ mark telling input result old new ends. view-ends-paced mark telling input old new result ends
