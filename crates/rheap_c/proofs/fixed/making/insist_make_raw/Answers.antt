use Rattle.rh_pace.specs.Making.{IsInsistedMake}
use Rattle.rheap_c.proofs.Lent.{open-held}
use Rattle.rheap_c.proofs.MadeWith.{closed-made, lent-made}
use Rattle.rheap_c.proofs.fixed.making.insist_make_raw.Goals as goal

pub returns-then-is_empty : goal.returns-then-is_empty
returns-then-is_empty c = closed-made _ _ _ c.is_empty.ensures.empty c.if-is_empty.true c.is_empty.ensures.kept IsInsistedMake _ _ _ _

pub here-requires : goal.here-requires
here-requires c = open-held _ _ _ c.is_empty.ensures.empty c.if-is_empty.false c.is_empty.ensures.kept

pub returns : goal.returns
returns c = lent-made _ _ _ c.is_empty.ensures.kept c.here.ensures.value _ IsInsistedMake _ _ _ c.id.ensures _ _ _ c.made.ensures
