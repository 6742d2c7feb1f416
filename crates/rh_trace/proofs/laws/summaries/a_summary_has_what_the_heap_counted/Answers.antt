use Rattle.std.proofs.Common.{ap}
use Rattle.rh_core.specs.Heap.{HeapState}
use Rattle.rh_trace.proofs.CountedFlips.{flip_counts, flips_of-requests, root_words_of-requests}
use Rattle.rh_trace.proofs.laws.summaries.a_summary_has_what_the_heap_counted.Goals as goal

pub returns-clause-flips : goal.returns-clause-flips
returns-clause-flips c =
    let command = c.a_command_leaves_the_cycle.ensures.stays in
    let begin = c.a_cycle_begins_with_nothing_placed.ensures.stays in
    let shade = c.a_shade_leaves_the_cycle.ensures.stays in
    let deal = c.a_deal_looks_at_as_many_as_it_may.ensures.stays in
    let give = c.a_give_leaves_the_cycle.ensures.stays in
    let recall = c.a_recall_makes_all_undealt.ensures.stays in
    let abandon = c.an_abandon_forgets_what_was_placed.ensures.stays in
    let idle = c.idle_words_add_up.ensures.stays in
    let ended = c.a_flip_ends_the_cycle.ensures.ended in
    let refused = c.a_flip_is_refused_exactly_where_its_cycle_is_not_closed.ensures.refused in
    flips_of-requests (record {
      command = λ h owner what. (ap (λ (g : HeapState). g.flips) (command h owner what), ap (λ (g : HeapState). g.root_words) (command h owner what));
      begin = λ h. (ap (λ (g : HeapState). g.flips) (begin h), ap (λ (g : HeapState). g.root_words) (begin h));
      shade = λ h root. (ap (λ (g : HeapState). g.flips) (shade h root), ap (λ (g : HeapState). g.root_words) (shade h root));
      deal = λ h kind most. (ap (λ (g : HeapState). g.flips) (deal h kind most), ap (λ (g : HeapState). g.root_words) (deal h kind most));
      give = λ h r. (ap (λ (g : HeapState). g.flips) (give h r), ap (λ (g : HeapState). g.root_words) (give h r));
      recall = λ h. (ap (λ (g : HeapState). g.flips) (recall h), ap (λ (g : HeapState). g.root_words) (recall h));
      abandon = λ h. (ap (λ (g : HeapState). g.flips) (abandon h), ap (λ (g : HeapState). g.root_words) (abandon h));
      idle = λ h words. (ap (λ (g : HeapState). g.flips) (idle h words), ap (λ (g : HeapState). g.root_words) (idle h words));
      flip = λ h. flip_counts h (λ f same. ((ended h f same).7, (ended h f same).8)) (refused h);
    })

pub returns-clause-root_words : goal.returns-clause-root_words
returns-clause-root_words c =
    let command = c.a_command_leaves_the_cycle.ensures.stays in
    let begin = c.a_cycle_begins_with_nothing_placed.ensures.stays in
    let shade = c.a_shade_leaves_the_cycle.ensures.stays in
    let deal = c.a_deal_looks_at_as_many_as_it_may.ensures.stays in
    let give = c.a_give_leaves_the_cycle.ensures.stays in
    let recall = c.a_recall_makes_all_undealt.ensures.stays in
    let abandon = c.an_abandon_forgets_what_was_placed.ensures.stays in
    let idle = c.idle_words_add_up.ensures.stays in
    let ended = c.a_flip_ends_the_cycle.ensures.ended in
    let refused = c.a_flip_is_refused_exactly_where_its_cycle_is_not_closed.ensures.refused in
    root_words_of-requests (record {
      command = λ h owner what. (ap (λ (g : HeapState). g.flips) (command h owner what), ap (λ (g : HeapState). g.root_words) (command h owner what));
      begin = λ h. (ap (λ (g : HeapState). g.flips) (begin h), ap (λ (g : HeapState). g.root_words) (begin h));
      shade = λ h root. (ap (λ (g : HeapState). g.flips) (shade h root), ap (λ (g : HeapState). g.root_words) (shade h root));
      deal = λ h kind most. (ap (λ (g : HeapState). g.flips) (deal h kind most), ap (λ (g : HeapState). g.root_words) (deal h kind most));
      give = λ h r. (ap (λ (g : HeapState). g.flips) (give h r), ap (λ (g : HeapState). g.root_words) (give h r));
      recall = λ h. (ap (λ (g : HeapState). g.flips) (recall h), ap (λ (g : HeapState). g.root_words) (recall h));
      abandon = λ h. (ap (λ (g : HeapState). g.flips) (abandon h), ap (λ (g : HeapState). g.root_words) (abandon h));
      idle = λ h words. (ap (λ (g : HeapState). g.flips) (idle h words), ap (λ (g : HeapState). g.root_words) (idle h words));
      flip = λ h. flip_counts h (λ f same. ((ended h f same).7, (ended h f same).8)) (refused h);
    })
