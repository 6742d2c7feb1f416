use Rattle.rh_engine.proofs.TrayEntries.{tray-copied}
use Rattle.rh_engine.proofs.trays.copied.Goals as goal

pub returns-in-Ok : goal.returns-in-Ok
returns-in-Ok g c =
    tray-copied c.in-Ok.second c.args.replica.now c.len-in-Ok.ensures.rising c.len.ensures.rising c.in-Ok.ensures
