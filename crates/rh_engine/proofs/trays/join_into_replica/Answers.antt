use Rattle.std.proofs.Common.{◌∙◌, ap, length}
use Rattle.rh_engine.specs.Trays.{tray_of, joined_trays}
use Rattle.rh_engine.proofs.TrayEntries.{tray-joined, tray-copied}
use Rattle.rh_engine.proofs.trays.join_into_replica.Goals as goal

pub returns-in-Ok-clause-joined : goal.returns-in-Ok-clause-joined
returns-in-Ok-clause-joined g c =
    tray-joined c.in-Ok.both c.replace-whole.result c.args.second c.len-entries.ensures.rising c.len.ensures.rising c.len-2.ensures.rising c.in-Ok.ensures.joined
    ∙ ap (λ r. joined_trays (tray_of r) (tray_of c.args.second)) c.replace-whole.ensures.value

pub returns-in-Ok-clause-answer : goal.returns-in-Ok-clause-answer
returns-in-Ok-clause-answer g c =
    c.len-entries.ensures.len ∙ ap (λ t. length t.entries) (returns-in-Ok-clause-joined g c)

pub returns-in-Err-clause-unchanged : goal.returns-in-Err-clause-unchanged
returns-in-Err-clause-unchanged g c =
    tray-copied c.in-Err.unjoined.left c.replace-whole.result c.len-in-Err.ensures.rising c.len.ensures.rising c.in-Err.ensures.left_back
    ∙ ap tray_of c.replace-whole.ensures.value
