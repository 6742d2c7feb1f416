use Rattle.std.proofs.Common.{Ok, Err, refl, sym, ap, ◌∙◌}
use Rattle.rh_layout.specs.declared.command.RootId.{RootId}
use Rattle.rh_pace.specs.Paced.{PacedState}
use Rattle.rh_growing.specs.Growing.{GrowingState}
use Rattle.rheap_c.specs.Read.{count_in, root_answer}
use Rattle.rheap_c.specs.RootWord.{root_in}
use Rattle.rheap_c.proofs.Inside.{inside-counted}
use Rattle.rheap_c.proofs.growing.reading.fields.Goals as goal

pub returns-in-Ok : goal.returns-in-Ok
returns-in-Ok c =
    let answer = c.told_of_root-told.ensures ∙ (ap (λ (r : RootId). root_answer c.paced.result.now r) c.id.ensures
    ∙ ap (λ (p : PacedState). root_answer p (root_in c.args.root)) (c.paced.ensures ∙ ap (λ (g : GrowingState). g.paced) c.deref.ensures)) in
    inside-counted (λ s. count_in (root_answer s (root_in c.args.root))) _ _ c.in-Some.inner.value c.in-Some.ensures.taken c.give.ensures
    (Ok c.in-Ok.count) (sym c.in-Ok.is ∙ (c.counted.ensures ∙ ap count_in answer)) 0 refl _ refl

pub returns-in-Err : goal.returns-in-Err
returns-in-Err c =
    let answer = c.told_of_root-told.ensures ∙ (ap (λ (r : RootId). root_answer c.paced.result.now r) c.id.ensures
    ∙ ap (λ (p : PacedState). root_answer p (root_in c.args.root)) (c.paced.ensures ∙ ap (λ (g : GrowingState). g.paced) c.deref.ensures)) in
    inside-counted (λ s. count_in (root_answer s (root_in c.args.root))) _ _ c.in-Some.inner.value c.in-Some.ensures.taken c.give.ensures
    (Err c.in-Err.why) (sym c.in-Err.is ∙ (c.counted.ensures ∙ ap count_in answer)) _ c.number.ensures _ refl
