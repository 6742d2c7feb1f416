use Rattle.std.proofs.Common.{◌≡◌, refl, ap, ◌∙◌}
use Rattle.rh_pace.specs.Paced.{PacedState}
use Rattle.rh_growing.specs.Growing.{GrowingState}
use Rattle.rheap_c.specs.Numbers.{no_pace, pace_in, pace_of}
use Rattle.rheap_c.proofs.Inside.{inside-read}
use Rattle.rheap_c.proofs.growing.numbers.pace.Goals as goal

pub returns-in-Some : goal.returns-in-Some
returns-in-Some c =
    let s : GrowingState = c.in-Some.inner.value in
    let inside : c.paced.result.now ≡ s.paced = c.paced.ensures ∙ ap (λ (t : GrowingState). t.paced) c.deref.ensures in
    inside-read _ _ s _ c.in-Some.ensures.taken c.give.ensures refl pace_in no_pace c.pace_crossing.result
    (c.pace_crossing.ensures ∙ ap pace_of (c.pace.ensures.pace ∙ ap (λ (p : PacedState). p.pace) inside))
