use Rattle.rh_engine.proofs.OneListing.{tray_text-tells, stat_text-injective}
use Rattle.rh_engine.proofs.laws.listings_tell_what_they_list.Goals as goal

pub returns-clause-tray : goal.returns-clause-tray
returns-clause-tray c = tray_text-tells

pub returns-clause-stat : goal.returns-clause-stat
returns-clause-stat c = stat_text-injective
