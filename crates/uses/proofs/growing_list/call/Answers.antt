use Rattle.std.proofs.Common.{ap, subst, ◌∙◌}
use Rattle.rh_core.specs.Heap.{IsWellFormed}
use Rattle.rh_pace.specs.KeptUp.{IsPaced}
use Rattle.rh_pace.specs.Paced.{PacedState}
use Rattle.uses.proofs.RoomKept.{room-on, told-short}
use Rattle.uses.proofs.growing_list.call.Goals as goal

pub returns-clause-room : goal.returns-clause-room
returns-clause-room g c = λ words roomy fits.
    let called = c.command.ensures in
    let well = subst IsWellFormed (c.heap.ensures ∙ ap (λ (p : PacedState). p.heap) c.paced.ensures) c.missing.ensures.heap in
    let paced = subst IsPaced c.paced-2.ensures c.pace.ensures.keeps in (
      room-on called.0 _ _ _ _ _ called.1 words roomy fits,
      told-short called.0 _ _ _ _ _ called.1 words roomy fits c.growing_heaps_keep_up.ensures.later well paced c.growth.ensures.keeps,
    )
