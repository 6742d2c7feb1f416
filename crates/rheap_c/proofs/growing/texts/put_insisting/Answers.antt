use Rattle.rheap_c.proofs.GrownStores.{AreGrownNumbers-again, AreGrownNumbers-once}
use Rattle.rheap_c.proofs.growing.texts.put_insisting.Goals as goal

pub returns-then-status-ne-LOG_FULL : goal.returns-then-status-ne-LOG_FULL
returns-then-status-ne-LOG_FULL c = AreGrownNumbers-once _ _ _ _ _ _ _ c.if-status-ne-LOG_FULL.true c.put-status.ensures

pub returns : goal.returns
returns c =
    AreGrownNumbers-again _ _ _ _ _ _ _ _ c.collected.ensures.0 _ _ _ c.if-status-ne-LOG_FULL.false c.put-status.ensures
    c.collected.ensures.1 c.put.ensures
