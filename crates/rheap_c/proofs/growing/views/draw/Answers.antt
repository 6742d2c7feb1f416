use Rattle.std.proofs.Common.{refl}
use Rattle.rheap_c.specs.Views.{IsPicture}
use Rattle.rheap_c.proofs.Untouched.{inside-kept}
use Rattle.rheap_c.proofs.growing.views.draw.Goals as goal

pub returns-in-Some : goal.returns-in-Some
returns-in-Some c =
    let s = c.in-Some.inner.value in
    inside-kept (λ o n. IsPicture o n c.args.text.now c.tell_picture-status.new.buffer c.tell_picture-status.new.length c.tell_picture-status.result)
    _ _ s s c.in-Some.ensures.taken c.give.ensures refl (refl, c.tell_picture-status.ensures)
