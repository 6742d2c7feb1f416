use Rattle.std.proofs.Common.{sym, ap, ◌∙◌}
use Rattle.rh_core.specs.StoringAll.{done_replies}
use Rattle.rh_pace.proofs.StoredInTime.{length-number_stores}
use Rattle.rheap_c.proofs.Unless.{AreStoredUnless-err, AreStoredUnless-ok, none-refused}
use Rattle.rheap_c.proofs.fixed.several.stored.Goals as goal

pub returns-in-Ok : goal.returns-in-Ok
returns-in-Ok g c =
    AreStoredUnless-ok _ _ _ _ (none-refused _ _ _ c.in-Ok.is c.store_items.ensures.refused) (record {
      state = c.in-Ok.ensures.state;
      answers = c.in-Ok.ensures.done
          ∙ sym (ap done_replies (length-number_stores _ _ _ _));
      stands = λ p stands. c.in-Ok.ensures.plain p stands;
    })

pub returns-in-Err : goal.returns-in-Err
returns-in-Err g c =
    AreStoredUnless-err _ _ _ _ _ _ ((c.store_items.ensures.refused c.in-Err.refusal).0 c.in-Err.is)
    c.in-Err.ensures.unchanged c.number.ensures
