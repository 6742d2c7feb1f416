use Rattle.std.proofs.Common.{◌++◌}
use Rattle.rh_pace.specs.Worked.{one_leaves}
use Rattle.uses.proofs.Served.{behind, served-call}
use Rattle.uses.proofs.queue.leave.Goals as goal

pub returns-in_err-load : goal.returns-in_err-load
returns-in_err-load g c = λ rest last room.
    let refused = served-call _ _ _ _ _ (behind (one_leaves ++ rest)) last c.in_err-load.ensures room in
    absurd refused

pub returns : goal.returns
returns g c = λ rest last room.
    served-call _ _ _ _ _ rest last c.in_ok-load.ensures room
