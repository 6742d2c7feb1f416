use Rattle.std.proofs.Common.{refl}
use Rattle.std.specs.Prelude.{Ok, Err}
use Rattle.rheap_c.proofs.fixed.opening.open_at.Goals as goal

pub returns-in-Ok : goal.returns-in-Ok
returns-in-Ok c = (Ok c.in-Ok.made.value, c.in-Ok.ensures.made, c.give.ensures, refl)

pub returns-in-Err : goal.returns-in-Err
returns-in-Err c =
    (Err c.in-Err.why, c.in-Err.ensures.fault, c.requires, c.fault_status.ensures)
