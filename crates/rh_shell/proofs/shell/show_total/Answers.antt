use Rattle.std.proofs.Common.{inr}
use Rattle.rh_shell.proofs.shell.show_total.Goals as goal

pub returns-in-Err-clause-failed : goal.returns-in-Err-clause-failed
returns-in-Err-clause-failed g c = inr c.in-Err.ensures.failed

pub returns-in-Err-clause-spent : goal.returns-in-Err-clause-spent
returns-in-Err-clause-spent g c = λ e. inr c.in-Err.ensures.failed
