use Rattle.std.proofs.Common.{ap, ◌∙◌}
use Rattle.rh_core.specs.Heap.{HeapState}
use Rattle.layer_tests.proofs.heaps.cycle.begins_after.Goals as goal

pub returns : goal.returns
returns g c = λ on.
    let stays = c.a_command_leaves_the_cycle.ensures.stays _ c.args.owner c.args.command.now in
    let cycle = ap (λ (h : HeapState). h.mutators.cycle) c.command.ensures.state ∙ ap (λ (h : HeapState). h.mutators.cycle) stays ∙ on in
    c.begin.ensures.answer ∙ (c.a_cycle_begins_with_nothing_placed.ensures.on _).1 cycle
