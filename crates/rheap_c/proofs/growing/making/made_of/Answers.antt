use Rattle.rheap_c.proofs.GrownMadeWith.{grown-insisted, grown-made}
use Rattle.rheap_c.proofs.growing.making.made_of.Goals as goal

pub returns-then-insists : goal.returns-then-insists
returns-then-insists c = grown-insisted _ _ _ _ _ _ _ c.if-insists.true _ c.insist_make_with.ensures _ c.answer_status.ensures

pub returns : goal.returns
returns c = grown-made _ _ _ _ _ _ _ c.if-insists.false _ c.make_with.ensures _ c.answer_status-2.ensures
