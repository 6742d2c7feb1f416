use Rattle.std.proofs.Common.{ℕ, List, length, ap, sym, subst, ◌∙◌, arith}
use Rattle.std.proofs.lemmas.List.{append-nil}
use Rattle.rh_watches.specs.Watches.{WatchTable}
use Rattle.rh_core.specs.Mutator.{StandsFor}
use Rattle.rh_engine.proofs.TellAll.{ToldSoFar, few-to_tell, told-all, told-fewer, told-mutators, told-none, told-one}
use Rattle.rh_engine.proofs.engine.tell_all.Goals as goal

pub loop-ticket-init : goal.loop-ticket-init
loop-ticket-init g c = record {
  so_far = rw (c.in_ok-told.ensures.items) (told-none c.args.heap.now);
  room =
      let few = few-to_tell c.args.heap.now.watches c.watches.ensures.table in
      let tickets = ap (λ (t : WatchTable). length t.tickets) c.watches.ensures.watches in
      omega (arith, few, tickets, c.in_ok-told.ensures.len, c.in_ok-told.ensures.exact, c.room.ensures.room);
}

pub push_reserved-requires : goal.push_reserved-requires
push_reserved-requires g c =
    let fewer = ap length (told-fewer c.loop-ticket.heap c.next_gone.new.self c.in-Some.ticket c.in-Some.ensures.state c.in-Some.ensures.answer) in
    omega (arith, fewer, c.loop-ticket.invariant.room)

pub loop-ticket-smaller : goal.loop-ticket-smaller
loop-ticket-smaller g c =
    omega (arith, ap length (told-fewer c.loop-ticket.heap c.next_gone.new.self c.in-Some.ticket c.in-Some.ensures.state c.in-Some.ensures.answer))

pub loop-ticket-preserved : goal.loop-ticket-preserved
loop-ticket-preserved g c = record {
  so_far =
      subst (λ (told : List ℕ). ToldSoFar c.args.heap.now c.next_gone.new.self told) (sym c.push_reserved.ensures.items)
      (told-one c.args.heap.now c.loop-ticket.heap c.next_gone.new.self c.loop-ticket.told.items c.loop-ticket.invariant.so_far c.in-Some.ensures.state c.in-Some.ticket c.in-Some.ensures.answer);
  room =
      let fewer = ap length (told-fewer c.loop-ticket.heap c.next_gone.new.self c.in-Some.ticket c.in-Some.ensures.state c.in-Some.ensures.answer) in
      omega (arith, fewer, c.push_reserved.ensures.len, c.push_reserved.ensures.capacity, c.loop-ticket.invariant.room);
}

pub returns-clause-state : goal.returns-clause-state
returns-clause-state g c =
    (told-all c.args.heap.now c.loop-ticket.heap c.next_gone.new.self c.loop-ticket.told.items c.loop-ticket.invariant.so_far c.in_default.ensures.state c.in_default.ensures.answer).0

pub returns-clause-tickets : goal.returns-clause-tickets
returns-clause-tickets g c =
    sym (append-nil c.loop-ticket.told.items)
    ∙ (told-all c.args.heap.now c.loop-ticket.heap c.next_gone.new.self c.loop-ticket.told.items c.loop-ticket.invariant.so_far c.in_default.ensures.state c.in_default.ensures.answer).1

pub returns-clause-stands : goal.returns-clause-stands
returns-clause-stands g c = λ p stands.
    (c.next_gone.ensures.stands p).0 (subst (λ m. StandsFor m p) (sym (told-mutators c.args.heap.now c.loop-ticket.heap c.loop-ticket.told.items c.loop-ticket.invariant.so_far)) stands)
