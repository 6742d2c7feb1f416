use Rattle.rheap_c.proofs.Lent.{closed-loaded, lent-loaded, open-held}
use Rattle.rheap_c.proofs.fixed.shared.load.Goals as goal

pub returns-then-is_empty : goal.returns-then-is_empty
returns-then-is_empty c = closed-loaded _ _ _ c.is_empty.ensures.empty c.if-is_empty.true c.is_empty.ensures.kept _ _ _ _ _ c.nil.ensures

pub here-requires : goal.here-requires
here-requires c = open-held _ _ _ c.is_empty.ensures.empty c.if-is_empty.false c.is_empty.ensures.kept

pub returns : goal.returns
returns c = lent-loaded _ _ _ c.is_empty.ensures.kept c.here.ensures.value _ _ _ _ _ _ c.load-told.ensures _ c.answer_status.ensures _ c.told.ensures _ _ c.shared.ensures c.shared-2.ensures
