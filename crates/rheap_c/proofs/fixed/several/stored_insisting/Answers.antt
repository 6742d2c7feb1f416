use Rattle.std.proofs.Common.{rules}
use Rattle.rheap_c.proofs.Unless.{AreStored-again}
use Rattle.rheap_c.proofs.fixed.several.stored_insisting.Goals as goal

pub returns-then-status-ne-LOG_FULL-clause-not_full
    : goal.returns-then-status-ne-LOG_FULL-clause-not_full
returns-then-status-ne-LOG_FULL-clause-not_full g c = search rules

pub returns-clause-not_full : goal.returns-clause-not_full
returns-clause-not_full g c =
    (AreStored-again _ _ _ _ _ _ _ _ _ _ _ c.if-status-ne-LOG_FULL.false c.stored-status.ensures
    c.collected.ensures c.stored.ensures).0
