use Rattle.rheap_c.proofs.Unless.{none-refused}
use Rattle.rheap_c.proofs.GrownStores.{AreGrownStoredUnless-err, AreGrownStoredUnless-ok}
use Rattle.rheap_c.proofs.growing.texts.put.Goals as goal

pub returns-in-Ok : goal.returns-in-Ok
returns-in-Ok c =
    AreGrownStoredUnless-ok _ _ _ _ c.in-Ok.ensures.state.0 (none-refused _ _ _ c.in-Ok.is c.put_text.ensures.refused) (record {
      state = c.in-Ok.ensures.state.1;
      stands = λ p stands. c.in-Ok.ensures.plain p stands;
      in_time = c.in-Ok.ensures.in_time;
    })

pub returns-in-Err : goal.returns-in-Err
returns-in-Err c =
    AreGrownStoredUnless-err _ _ _ _ _ _ ((c.put_text.ensures.refused c.in-Err.refusal).0 c.in-Err.is)
    c.in-Err.ensures.unchanged c.number.ensures
