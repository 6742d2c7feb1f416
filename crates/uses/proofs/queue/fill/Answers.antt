use Rattle.std.proofs.Common.{◌+◌, ◌-◌, ◌++◌}
use Rattle.rh_pace.specs.Worked.{one_joins, times}
use Rattle.uses.proofs.Served.{room-last, room-next}
use Rattle.uses.proofs.queue.fill.Goals as goal

pub loop-init : goal.loop-init
loop-init g c = λ rest last room. room

pub returns-in_err-join : goal.returns-in_err-join
returns-in_err-join g c = λ rest last room.
    let next = room-next c.loop.heap 248 c.loop.counter one_joins rest last (c.loop.invariant rest last room) c.loop-test.true in
    let refused = c.in_err-join.ensures (times (248 - (c.loop.counter + 1)) one_joins ++ rest) last next in
    absurd refused

pub loop-preserved : goal.loop-preserved
loop-preserved g c = λ rest last room.
    let next = room-next c.loop.heap 248 c.loop.counter one_joins rest last (c.loop.invariant rest last room) c.loop-test.true in
    c.in_ok-join.ensures (times (248 - (c.loop.counter + 1)) one_joins ++ rest) last next

pub returns : goal.returns
returns g c = λ rest last room.
    room-last c.loop.heap 248 c.loop.counter one_joins rest last (c.loop.invariant rest last room) c.loop-test.false
