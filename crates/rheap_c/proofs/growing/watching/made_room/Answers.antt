use Rattle.std.proofs.Common.{ap, ◌∙◌, length, arith}
use Rattle.std.specs.Prelude.{Err}
use Rattle.rh_core.specs.Heap.{HeapState}
use Rattle.rh_watches.specs.Watches.{WatchTable}
use Rattle.rh_watches.specs.declared.errors.RoomError.{RoomError}
use Rattle.rh_pace.specs.Paced.{PacedState}
use Rattle.rheap_c.proofs.growing.watching.made_room.Goals as goal

pub returns-in-Err-Fewer-clause-rest : goal.returns-in-Err-Fewer-clause-rest
returns-in-Err-Fewer-clause-rest c =
    let room = ap (λ (t : WatchTable). length t.tickets) (c.watches.ensures.watches ∙ ap (λ (h : HeapState). h.watches) c.heap.ensures ∙ ap (λ (p : PacedState). p.heap.watches) c.paced.ensures) in
    let is = c.in-Err-Fewer.is ∙ ap (λ (e : RoomError). Err e) c.in-Err-Fewer.field-0-is in
    let fewer = ((c.watch_room.ensures.fewer c.in-Err-Fewer.field-0-0).0 is).0 in
    absurd (omega (arith, fewer, c.in-Some.ensures, c.room-now.ensures.room, room))

pub returns-in-Err-Fewer-clause-made : goal.returns-in-Err-Fewer-clause-made
returns-in-Err-Fewer-clause-made c =
    let room = ap (λ (t : WatchTable). length t.tickets) (c.watches.ensures.watches ∙ ap (λ (h : HeapState). h.watches) c.heap.ensures ∙ ap (λ (p : PacedState). p.heap.watches) c.paced.ensures) in
    let is = c.in-Err-Fewer.is ∙ ap (λ (e : RoomError). Err e) c.in-Err-Fewer.field-0-is in
    let fewer = ((c.watch_room.ensures.fewer c.in-Err-Fewer.field-0-0).0 is).0 in
    absurd (omega (arith, fewer, c.in-Some.ensures, c.room-now.ensures.room, room))
