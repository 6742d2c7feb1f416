use Rattle.std.proofs.Common.{refl}
use Rattle.std.specs.Prelude.{Ok, Err}
use Rattle.rheap_c.proofs.Growths.{kept-none, opened-growing}
use Rattle.rheap_c.proofs.growing.opening.open.Goals as goal

pub give-requires : goal.give-requires
give-requires c = kept-none _ _ _ c.if-not-is_empty.ensures.empty refl c.is_empty.ensures.kept

pub returns-in-Ok : goal.returns-in-Ok
returns-in-Ok c = opened-growing _ _ _ _ _ c.if-not-is_empty.ensures.empty refl (Ok c.in-Ok.made.value) c.in-Ok.ensures.made c.give.ensures refl

pub returns-in-Err : goal.returns-in-Err
returns-in-Err c =
    opened-growing _ _ _ _ _ c.if-not-is_empty.ensures.empty refl (Err c.in-Err.why) c.in-Err.ensures.fault
    (kept-none _ _ _ c.if-not-is_empty.ensures.empty refl c.is_empty.ensures.kept) c.error_status.ensures
