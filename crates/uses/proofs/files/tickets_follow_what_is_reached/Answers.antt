use Rattle.std.proofs.Common.{Global, sym, subst}
use Rattle.rh_watches.specs.Watches.{WatchTable}
use Rattle.rh_mutator.specs.Mutator.{graph_of}
use Rattle.rh_core.specs.Commands.{heap_step}
use Rattle.rh_pace.proofs.StepLaws.{step_laws}
use Rattle.rh_growing.proofs.Watched.{tickets-collect, tickets-step}
use Rattle.uses.specs.Files.{TicketsFollow}
use Rattle.uses.proofs.FollowsReached.{TicketsFollow-collect_step, TicketsFollow-paced_step}
use Rattle.uses.proofs.files.tickets_follow_what_is_reached.Goals as goal

pub returns-clause-command : goal.returns-clause-command
returns-clause-command c = λ s well paced given owner command.
    let laws = step_laws Global c.every_event_keeps_a_heap_well_formed.ensures.event c.a_new_heap_is_well_formed.ensures.well_formed c.classes_are_told_apart.ensures c.a_flip_is_refused_exactly_where_its_cycle_is_not_closed.ensures.flipped in
    subst (λ (t : WatchTable). TicketsFollow (graph_of (heap_step s.paced.heap owner command).0.mutators) s.paced.heap.watches t) (sym (tickets-step given s owner command))
    (TicketsFollow-paced_step laws c.a_flip_keeps_the_graph.ensures.same s.paced well paced Global owner command)

pub returns-clause-collect : goal.returns-clause-collect
returns-clause-collect c = λ s well paced given need.
    let laws = step_laws Global c.every_event_keeps_a_heap_well_formed.ensures.event c.a_new_heap_is_well_formed.ensures.well_formed c.classes_are_told_apart.ensures c.a_flip_is_refused_exactly_where_its_cycle_is_not_closed.ensures.flipped in
    subst (λ (t : WatchTable). TicketsFollow (graph_of s.paced.heap.mutators) s.paced.heap.watches t) (sym (tickets-collect given need s))
    (TicketsFollow-collect_step laws c.a_flip_keeps_the_graph.ensures.same s.paced well paced)
