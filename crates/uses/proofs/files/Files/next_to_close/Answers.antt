use Rattle.std.proofs.Common.{arith, sym, ap, subst, ◌∙◌}
use Rattle.rh_watches.specs.Watches.{IsWatchTable}
use Rattle.rh_core.specs.Heap.{HeapState}
use Rattle.rh_pace.specs.Paced.{PacedState}
use Rattle.rh_growing.specs.Growing.{GrowingState}
use Rattle.uses.specs.Files.{AreFiles, files_state}
use Rattle.uses.proofs.FileSteps.{closed-files, closed-is, closed-some, closed-times, closed-within, if_none, untold-none, untold-same}
use Rattle.uses.proofs.files.Files.next_to_close.Goals as goal

pub invariant_of-self : goal.invariant_of-self
invariant_of-self g c =
    let same = untold-same c.self.inside.heap c.next_gone.new.self c.in_err-ticket.ensures.state c.in_err-ticket.ensures.answer (c.a_ticket_is_told_once.ensures.none _) in
    subst (λ (s : GrowingState). AreFiles s.paced.heap.watches c.self.inside.table.items) (sym same) c.self.invariant

pub returns-in_err-ticket-clause-none : goal.returns-in_err-ticket-clause-none
returns-in_err-ticket-clause-none g c =
    let table = subst (λ (h : HeapState). IsWatchTable h.watches) (c.heap.ensures ∙ ap (λ (p : PacedState). p.heap) c.paced.ensures) c.watches.ensures.table in
    let same = untold-same c.self.inside.heap c.next_gone.new.self c.in_err-ticket.ensures.state c.in_err-ticket.ensures.answer (c.a_ticket_is_told_once.ensures.none _) in
    let none = untold-none c.self.inside.heap c.next_gone.new.self c.in_err-ticket.ensures.state c.in_err-ticket.ensures.answer (c.a_ticket_is_told_once.ensures.to_tell _ table) in
    rw (← c.self.view_is) (if_none c.from_residual.result (ap (λ (s : GrowingState). files_state s c.self.inside.table.items) same, none))

pub index-file-requires : goal.index-file-requires
index-file-requires g c =
    let table = subst (λ (h : HeapState). IsWatchTable h.watches) (c.heap.ensures ∙ ap (λ (p : PacedState). p.heap) c.paced.ensures) c.watches.ensures.table in
    omega (arith, closed-within c.self.inside.heap c.next_gone.new.self c.in_ok-ticket.ensures.state c.self.inside.table.items c.in_ok-ticket.ticket c.self.invariant c.in_ok-ticket.ensures.answer (λ first. let told = c.a_ticket_is_told_once.ensures.told _ table _ first in (told.0, told.1)) (λ n first other. c.a_ticket_is_told_once.ensures.others _ _ n first other), c.self.inside.table.ok.0)

pub index_mut-requires : goal.index_mut-requires
index_mut-requires g c =
    let table = subst (λ (h : HeapState). IsWatchTable h.watches) (c.heap.ensures ∙ ap (λ (p : PacedState). p.heap) c.paced.ensures) c.watches.ensures.table in
    omega (arith, closed-within c.self.inside.heap c.next_gone.new.self c.in_ok-ticket.ensures.state c.self.inside.table.items c.in_ok-ticket.ticket c.self.invariant c.in_ok-ticket.ensures.answer (λ first. let told = c.a_ticket_is_told_once.ensures.told _ table _ first in (told.0, told.1)) (λ n first other. c.a_ticket_is_told_once.ensures.others _ _ n first other), c.self.inside.table.ok.0)

pub invariant_of-self-2 : goal.invariant_of-self-2
invariant_of-self-2 g c =
    let table = subst (λ (h : HeapState). IsWatchTable h.watches) (c.heap.ensures ∙ ap (λ (p : PacedState). p.heap) c.paced.ensures) c.watches.ensures.table in
    closed-files c.self.inside.heap c.next_gone.new.self c.in_ok-ticket.ensures.state c.self.inside.table.items c.in_ok-ticket.ticket c.self.invariant c.in_ok-ticket.ensures.answer (λ first. let told = c.a_ticket_is_told_once.ensures.told _ table _ first in (told.0, told.1)) (λ n first other. c.a_ticket_is_told_once.ensures.others _ _ n first other)

pub returns-clause-closed : goal.returns-clause-closed
returns-clause-closed g c =
    let table = subst (λ (h : HeapState). IsWatchTable h.watches) (c.heap.ensures ∙ ap (λ (p : PacedState). p.heap) c.paced.ensures) c.watches.ensures.table in
    rw (← c.self.view_is) (closed-is c.self.inside.heap c.next_gone.new.self c.in_ok-ticket.ensures.state c.self.inside.table.items c.in_ok-ticket.ticket c.self.invariant c.in_ok-ticket.ensures.answer (λ first. let told = c.a_ticket_is_told_once.ensures.told _ table _ first in (told.0, told.1)) (λ n first other. c.a_ticket_is_told_once.ensures.others _ _ n first other) c.index-file.result.now c.index-file.ensures)

pub returns-clause-times : goal.returns-clause-times
returns-clause-times g c =
    let table = subst (λ (h : HeapState). IsWatchTable h.watches) (c.heap.ensures ∙ ap (λ (p : PacedState). p.heap) c.paced.ensures) c.watches.ensures.table in
    rw (← c.self.view_is) (closed-times c.self.inside.heap c.next_gone.new.self c.in_ok-ticket.ensures.state c.self.inside.table.items c.in_ok-ticket.ticket c.self.invariant c.in_ok-ticket.ensures.answer (λ first. let told = c.a_ticket_is_told_once.ensures.told _ table _ first in (told.0, told.1)) (λ n first other. c.a_ticket_is_told_once.ensures.others _ _ n first other) c.index-file.result.now c.index-file.ensures)

pub returns-clause-none : goal.returns-clause-none
returns-clause-none g c =
    let table = subst (λ (h : HeapState). IsWatchTable h.watches) (c.heap.ensures ∙ ap (λ (p : PacedState). p.heap) c.paced.ensures) c.watches.ensures.table in
    closed-some c.self.inside.heap c.next_gone.new.self c.in_ok-ticket.ensures.state c.self.inside.table.items c.in_ok-ticket.ticket c.self.invariant c.in_ok-ticket.ensures.answer (λ first. let told = c.a_ticket_is_told_once.ensures.told _ table _ first in (told.0, told.1)) (λ n first other. c.a_ticket_is_told_once.ensures.others _ _ n first other) _ c.index-file.result.now c.index-file.ensures
