use Rattle.std.proofs.Common.{refl, ap, ◌∙◌}
use Rattle.rh_growing.specs.Growing.{GrowingState}
use Rattle.rheap_c.proofs.Inside.{inside-text}
use Rattle.rheap_c.proofs.growing.texts.load_text.Goals as goal

pub returns-in-Some : goal.returns-in-Some
returns-in-Some c =
    inside-text _ _ c.in-Some.inner.value c.in-Some.ensures.taken c.give.ensures
    c.paced.result.now (c.paced.ensures ∙ ap (λ (g : GrowingState). g.paced) c.deref.ensures)
    c.args.owner c.id.result _ c.id.ensures c.args.from
    c.args.text.now c.told_text-status.new.text c.told_text-status.new.count c.told_text-status.result
    (refl, c.told_text-status.ensures)
