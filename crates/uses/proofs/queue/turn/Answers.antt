use Rattle.std.proofs.Common.{◌≡◌, ℕ, ◌+◌, ◌-◌, ◌++◌, arith, subst}
use Rattle.rh_pace.specs.Worked.{one_joins, one_leaves, times}
use Rattle.uses.specs.Queue.{LeadTo}
use Rattle.uses.proofs.Served.{room-last, room-next}
use Rattle.uses.proofs.queue.turn.Goals as goal

pub loop-init : goal.loop-init
loop-init g c = λ rest last room.
    let all : c.args.rounds ≡ c.args.rounds - 0 = omega arith in
    subst (λ (n : ℕ). LeadTo c.args.heap.now (times n (one_joins ++ one_leaves) ++ rest) last) all room

pub returns-in_err-join : goal.returns-in_err-join
returns-in_err-join g c = λ rest last room.
    let more = times (c.args.rounds - (c.loop.counter + 1)) (one_joins ++ one_leaves) ++ rest in
    let next = room-next c.loop.heap c.args.rounds c.loop.counter (one_joins ++ one_leaves) rest last (c.loop.invariant rest last room) c.loop-test.true in
    let refused = c.in_err-join.ensures (one_leaves ++ more) last next in
    absurd refused

pub returns-in_err-leave : goal.returns-in_err-leave
returns-in_err-leave g c = λ rest last room.
    let more = times (c.args.rounds - (c.loop.counter + 1)) (one_joins ++ one_leaves) ++ rest in
    let next = room-next c.loop.heap c.args.rounds c.loop.counter (one_joins ++ one_leaves) rest last (c.loop.invariant rest last room) c.loop-test.true in
    let refused = c.in_err-leave.ensures more last (c.in_ok-join.ensures (one_leaves ++ more) last next) in
    absurd refused

pub loop-preserved : goal.loop-preserved
loop-preserved g c = λ rest last room.
    let more = times (c.args.rounds - (c.loop.counter + 1)) (one_joins ++ one_leaves) ++ rest in
    let next = room-next c.loop.heap c.args.rounds c.loop.counter (one_joins ++ one_leaves) rest last (c.loop.invariant rest last room) c.loop-test.true in
    c.in_ok-leave.ensures more last (c.in_ok-join.ensures (one_leaves ++ more) last next)

pub returns : goal.returns
returns g c = λ rest last room.
    room-last c.loop.heap c.args.rounds c.loop.counter (one_joins ++ one_leaves) rest last (c.loop.invariant rest last room) c.loop-test.false
