use Rattle.std.proofs.Common.{ap, ◌∙◌}
use Rattle.rh_layout.specs.declared.command.RootId.{RootId}
use Rattle.rh_growing.specs.Growing.{GrowingState}
use Rattle.rheap_c.specs.Read.{field_answer}
use Rattle.rheap_c.specs.RootWord.{root_in}
use Rattle.rheap_c.proofs.Inside.{inside-answered}
use Rattle.rheap_c.proofs.growing.reading.field.Goals as goal

pub returns-in-Some : goal.returns-in-Some
returns-in-Some c =
    inside-answered (λ s. field_answer s (root_in c.args.root) c.args.field) _ _ c.in-Some.inner.value c.in-Some.ensures.taken c.give.ensures
    c.paced.result.now (c.paced.ensures ∙ ap (λ (g : GrowingState). g.paced) c.deref.ensures)
    c.told_of_field-told.result (c.told_of_field-told.ensures ∙ ap (λ (r : RootId). field_answer c.paced.result.now r c.args.field) c.id.ensures)
    _ c.answer_status.ensures _ c.told.ensures
