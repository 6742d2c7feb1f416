use Rattle.std.proofs.Common.{◌≡◌, refl, ap, ◌∙◌}
use Rattle.rh_pace.specs.Paced.{PacedState}
use Rattle.rh_growing.specs.Growing.{GrowingState}
use Rattle.rheap_c.specs.Views.{IsDump}
use Rattle.rheap_c.proofs.Untouched.{dumps, inside-kept}
use Rattle.rheap_c.proofs.growing.views.dump.Goals as goal

pub returns-in-Some : goal.returns-in-Some
returns-in-Some c =
    let s : GrowingState = c.in-Some.inner.value in
    let inside : c.heap.result.now ≡ s.paced.heap =
    c.heap.ensures ∙ ap (λ (p : PacedState). p.heap) (c.paced.ensures ∙ ap (λ (g : GrowingState). g.paced) c.deref.ensures) in
    inside-kept (λ o n. IsDump o n c.args.text.now c.tell_dump-status.new.buffer c.tell_dump-status.new.length c.tell_dump-status.result)
    _ _ s s c.in-Some.ensures.taken c.give.ensures refl
    (dumps s.paced c.heap.result.now inside c.args.text.now c.tell_dump-status.new.buffer c.tell_dump-status.new.length c.tell_dump-status.result
    c.tell_dump-status.ensures)
