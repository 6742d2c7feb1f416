use Rattle.std.proofs.Common.{◌≡◌, refl, ap, ◌∙◌}
use Rattle.rh_pace.specs.Paced.{PacedState}
use Rattle.rh_growing.specs.Growing.{GrowingState}
use Rattle.rheap_c.specs.Numbers.{no_room, room_in}
use Rattle.rheap_c.proofs.Inside.{inside-read}
use Rattle.rheap_c.proofs.growing.numbers.room.Goals as goal

pub returns-in-Some : goal.returns-in-Some
returns-in-Some c =
    let s : GrowingState = c.in-Some.inner.value in
    let inside : c.paced.result.now ≡ s.paced = c.paced.ensures ∙ ap (λ (t : GrowingState). t.paced) c.deref.ensures in
    inside-read _ _ s _ c.in-Some.ensures.taken c.give.ensures refl (room_in c.args.fields) no_room c.room_of.result
    (c.room_of.ensures ∙ ap (λ (p : PacedState). room_in c.args.fields p) inside)
