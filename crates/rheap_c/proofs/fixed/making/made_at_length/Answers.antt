use Rattle.rheap_c.proofs.MadeWith.{made-insisting, made-plainly}
use Rattle.rheap_c.proofs.fixed.making.made_at_length.Goals as goal

pub returns-then-insists : goal.returns-then-insists
returns-then-insists c = made-insisting _ _ _ _ _ _ _ c.if-insists.true _ c.insist_make_with.ensures _ c.answer_status.ensures

pub returns : goal.returns
returns c = made-plainly _ _ _ _ _ _ _ c.if-insists.false _ c.make_with.ensures _ c.answer_status-2.ensures
