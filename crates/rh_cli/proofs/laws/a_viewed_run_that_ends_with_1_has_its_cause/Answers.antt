use Rattle.rh_cli.proofs.ViewStatuses.{viewed_run_1}
use Rattle.rh_cli.proofs.laws.a_viewed_run_that_ends_with_1_has_its_cause.Goals as goal

pub returns : goal.returns
returns c = viewed_run_1
