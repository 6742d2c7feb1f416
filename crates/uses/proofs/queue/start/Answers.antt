use Rattle.std.proofs.Common.{◌++◌}
use Rattle.rh_pace.specs.Worked.{first_cell}
use Rattle.uses.proofs.Served.{behind, served-call}
use Rattle.uses.proofs.queue.start.Goals as goal

pub returns-in_err-alloc : goal.returns-in_err-alloc
returns-in_err-alloc g c = λ rest last room.
    let refused = served-call _ _ _ _ _ (behind (first_cell ++ rest)) last c.in_err-alloc.ensures room in
    absurd refused

pub returns-in_err-copy : goal.returns-in_err-copy
returns-in_err-copy g c = λ rest last room.
    let room1 = served-call _ _ _ _ _ (behind (first_cell ++ rest)) last c.in_ok-alloc.ensures room in
    let refused = served-call _ _ _ _ _ (behind (behind (first_cell ++ rest))) last c.in_err-copy.ensures room1 in
    absurd refused

pub returns : goal.returns
returns g c = λ rest last room.
    let room1 = served-call _ _ _ _ _ (behind (first_cell ++ rest)) last c.in_ok-alloc.ensures room in
    served-call _ _ _ _ _ rest last c.in_ok-copy.ensures room1
