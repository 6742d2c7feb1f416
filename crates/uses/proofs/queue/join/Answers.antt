use Rattle.std.proofs.Common.{◌++◌}
use Rattle.rh_pace.specs.Worked.{one_joins}
use Rattle.uses.proofs.Served.{behind, served-call}
use Rattle.uses.proofs.queue.join.Goals as goal

pub returns-in_err-alloc : goal.returns-in_err-alloc
returns-in_err-alloc g c = λ rest last room.
    let refused = served-call _ _ _ _ _ (behind (one_joins ++ rest)) last c.in_err-alloc.ensures room in
    absurd refused

pub returns-in_err-store : goal.returns-in_err-store
returns-in_err-store g c = λ rest last room.
    let room1 = served-call _ _ _ _ _ (behind (one_joins ++ rest)) last c.in_ok-alloc.ensures room in
    let refused = served-call _ _ _ _ _ (behind (behind (one_joins ++ rest))) last c.in_err-store.ensures room1 in
    absurd refused

pub returns-in_err-copy : goal.returns-in_err-copy
returns-in_err-copy g c = λ rest last room.
    let room1 = served-call _ _ _ _ _ (behind (one_joins ++ rest)) last c.in_ok-alloc.ensures room in
    let room2 = served-call _ _ _ _ _ (behind (behind (one_joins ++ rest))) last c.in_ok-store.ensures room1 in
    let refused = served-call _ _ _ _ _ (behind (behind (behind (one_joins ++ rest)))) last c.in_err-copy.ensures room2 in
    absurd refused

pub returns-in_err-drop : goal.returns-in_err-drop
returns-in_err-drop g c = λ rest last room.
    let room1 = served-call _ _ _ _ _ (behind (one_joins ++ rest)) last c.in_ok-alloc.ensures room in
    let room2 = served-call _ _ _ _ _ (behind (behind (one_joins ++ rest))) last c.in_ok-store.ensures room1 in
    let room3 = served-call _ _ _ _ _ (behind (behind (behind (one_joins ++ rest)))) last c.in_ok-copy.ensures room2 in
    let refused = served-call _ _ _ _ _ (behind (behind (behind (behind (one_joins ++ rest))))) last c.in_err-drop.ensures room3 in
    absurd refused

pub returns : goal.returns
returns g c = λ rest last room.
    let room1 = served-call _ _ _ _ _ (behind (one_joins ++ rest)) last c.in_ok-alloc.ensures room in
    let room2 = served-call _ _ _ _ _ (behind (behind (one_joins ++ rest))) last c.in_ok-store.ensures room1 in
    let room3 = served-call _ _ _ _ _ (behind (behind (behind (one_joins ++ rest)))) last c.in_ok-copy.ensures room2 in
    served-call _ _ _ _ _ rest last c.in_ok-drop.ensures room3
