use Rattle.rheap_c.proofs.Unless.{AreReadUnless-err, AreReadUnless-ok, none-refused}
use Rattle.rheap_c.proofs.fixed.texts.told_text.Goals as goal

pub returns-in-Ok : goal.returns-in-Ok
returns-in-Ok c =
    AreReadUnless-ok _ _ _ _ _ (none-refused _ _ _ c.in-Ok.is c.text.ensures.refused) (record {
      read = c.in-Ok.ensures.read;
      plain = λ p stands. c.in-Ok.ensures.plain p stands;
    })

pub returns-in-Err : goal.returns-in-Err
returns-in-Err c =
    AreReadUnless-err _ _ _ _ _ _ ((c.text.ensures.refused c.in-Err.refusal).0 c.in-Err.is)
    c.in-Err.ensures.unchanged c.number.ensures
