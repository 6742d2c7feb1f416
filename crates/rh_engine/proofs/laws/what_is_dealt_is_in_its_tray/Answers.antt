use Rattle.rh_engine.proofs.TrayChanges.{dealt-into}
use Rattle.rh_engine.proofs.laws.what_is_dealt_is_in_its_tray.Goals as goal

pub returns : goal.returns
returns c = dealt-into
