use Rattle.rheap_c.proofs.Lent.{closed-compared, lent-compared, open-held}
use Rattle.rheap_c.proofs.fixed.objects.same.Goals as goal

pub returns-then-is_empty : goal.returns-then-is_empty
returns-then-is_empty c = closed-compared _ _ _ c.is_empty.ensures.empty c.if-is_empty.true c.is_empty.ensures.kept _ _ _

pub here-requires : goal.here-requires
here-requires c = open-held _ _ _ c.is_empty.ensures.empty c.if-is_empty.false c.is_empty.ensures.kept

pub returns : goal.returns
returns c = lent-compared _ _ _ c.is_empty.ensures.kept c.here.ensures.value _ _ _ _ _ c.same-told.ensures _ c.answer_status.ensures _ c.sameness.ensures _ _ c.id.ensures c.id-2.ensures
