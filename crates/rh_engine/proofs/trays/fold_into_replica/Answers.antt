use Rattle.std.proofs.Common.{◌∙◌, ap}
use Rattle.rh_engine.specs.Trays.{tray_of, tray_with}
use Rattle.rh_engine.proofs.TrayEntries.{tray-taken}
use Rattle.rh_engine.proofs.trays.fold_into_replica.Goals as goal

pub returns-in-Ok-clause-folded : goal.returns-in-Ok-clause-folded
returns-in-Ok-clause-folded g c =
    tray-taken c.in-Ok.more c.replace-whole.result c.args.piece.now.items c.len-in-Ok.ensures.rising c.len.ensures.rising c.in-Ok.ensures.taken
    ∙ ap (λ r. tray_with (tray_of r) c.args.piece.now.items) c.replace-whole.ensures.value

pub returns-in-Err-clause-unchanged : goal.returns-in-Err-clause-unchanged
returns-in-Err-clause-unchanged g c =
    ap tray_of (c.in-Err.ensures.back ∙ c.replace-whole.ensures.value)
