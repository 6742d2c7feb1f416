use Rattle.std.proofs.Common.{refl, ap, ◌∙◌}
use Rattle.rh_growing.specs.Growing.{GrowingState}
use Rattle.rheap_c.proofs.Inside.{inside-numbers}
use Rattle.rheap_c.proofs.growing.several.load_ints.Goals as goal

pub returns-in-Some : goal.returns-in-Some
returns-in-Some c =
    inside-numbers _ _ c.in-Some.inner.value c.in-Some.ensures.taken c.give.ensures
    c.paced.result.now (c.paced.ensures ∙ ap (λ (g : GrowingState). g.paced) c.deref.ensures)
    c.args.owner c.id.result _ c.id.ensures c.args.from
    c.args.numbers.now c.told-status.new.numbers c.told-status.new.count c.told-status.result
    (refl, c.told-status.ensures)
