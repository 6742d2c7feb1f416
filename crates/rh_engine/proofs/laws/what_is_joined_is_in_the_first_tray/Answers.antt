use Rattle.rh_engine.proofs.TrayChanges.{joined-into}
use Rattle.rh_engine.proofs.laws.what_is_joined_is_in_the_first_tray.Goals as goal

pub returns-clause-joined : goal.returns-clause-joined
returns-clause-joined c = joined-into
