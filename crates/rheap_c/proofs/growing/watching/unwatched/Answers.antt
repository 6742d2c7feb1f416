use Rattle.std.proofs.Common.{ap, ◌∙◌, length, arith}
use Rattle.rh_core.specs.Heap.{HeapState}
use Rattle.rh_watches.specs.Watches.{WatchTable}
use Rattle.rh_pace.specs.Paced.{PacedState}
use Rattle.rh_growing.specs.Growing.{with_paced}
use Rattle.rheap_c.proofs.Tickets.{unwatch_status-past, unwatched-past}
use Rattle.rheap_c.proofs.growing.watching.unwatched.Goals as goal

pub returns-then-ticket-from-clause-state : goal.returns-then-ticket-from-clause-state
returns-then-ticket-from-clause-state c =
    let room = ap (λ (t : WatchTable). length t.tickets) (c.watches.ensures.watches ∙ ap (λ (h : HeapState). h.watches) c.heap.ensures ∙ ap (λ (p : PacedState). p.heap.watches) c.paced.ensures) in
    ap (with_paced c.args.heap.now) (unwatched-past c.args.heap.now.paced c.args.ticket (omega (arith, c.if-ticket-from.true, c.from.ensures, c.room.ensures.room, room)))

pub returns-then-ticket-from-clause-status : goal.returns-then-ticket-from-clause-status
returns-then-ticket-from-clause-status c =
    let room = ap (λ (t : WatchTable). length t.tickets) (c.watches.ensures.watches ∙ ap (λ (h : HeapState). h.watches) c.heap.ensures ∙ ap (λ (p : PacedState). p.heap.watches) c.paced.ensures) in
    unwatch_status-past c.args.heap.now.paced c.args.ticket (omega (arith, c.if-ticket-from.true, c.from.ensures, c.room.ensures.room, room))
