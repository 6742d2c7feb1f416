use Rattle.std.proofs.Common.{ap, arith}
use Rattle.rh_core.specs.Heap.{HeapState}
use Rattle.rh_core.specs.Holding.{replica_with}
use Rattle.rh_paced_trace.specs.Lines.{commands_in}
use Rattle.rh_paced_trace.specs.Run.{new_run}
use Rattle.rh_paced_trace.proofs.Epochs.{agree-commands}
use Rattle.rh_paced_trace.proofs.laws.a_summary_counts_the_cycles_that_ended.Goals as goal

pub returns : goal.returns
returns c =
    let command = c.a_command_leaves_the_cycle.ensures.stays in
    let begin = c.a_cycle_begins_with_nothing_placed.ensures.stays in
    let shade = c.a_shade_leaves_the_cycle.ensures.stays in
    let deal = c.a_deal_looks_at_as_many_as_it_may.ensures.stays in
    let give = c.a_give_leaves_the_cycle.ensures.stays in
    let idle = c.idle_words_add_up.ensures.stays in
    let ended = c.a_flip_ends_the_cycle.ensures.ended in
    let agreed = agree-commands (record {
      command = λ h owner what. (ap (λ (g : HeapState). g.flips) (command h owner what), ap (λ (g : HeapState). g.epoch) (command h owner what));
      begin = λ h. (ap (λ (g : HeapState). g.flips) (begin h), ap (λ (g : HeapState). g.epoch) (begin h));
      shade = λ h root. (ap (λ (g : HeapState). g.flips) (shade h root), ap (λ (g : HeapState). g.epoch) (shade h root));
      deal = λ h kind most. (ap (λ (g : HeapState). g.flips) (deal h kind most), ap (λ (g : HeapState). g.epoch) (deal h kind most));
      give = λ h epoch items. let stays = give h (replica_with epoch items) in (ap (λ (g : HeapState). g.flips) stays, ap (λ (g : HeapState). g.epoch) stays);
      idle = λ h words. (ap (λ (g : HeapState). g.flips) (idle h words), ap (λ (g : HeapState). g.epoch) (idle h words));
      flipped = λ h f same. ((ended h f same).7, (ended h f same).6);
      refused = c.a_flip_is_refused_exactly_where_its_cycle_is_not_closed.ensures.refused;
    }) in
    record { flips = agreed; run = λ script pace. omega (arith, agreed (new_run script pace) (commands_in script.requests)) }
