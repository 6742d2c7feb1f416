use Rattle.std.proofs.Common.{◌≡◌, refl, ap, ◌∙◌}
use Rattle.rh_pace.specs.Paced.{PacedState}
use Rattle.rh_growing.specs.Growing.{GrowingState}
use Rattle.rheap_c.specs.Numbers.{did_in, did_of, no_did}
use Rattle.rheap_c.proofs.Inside.{inside-read}
use Rattle.rheap_c.proofs.growing.numbers.last_did.Goals as goal

pub returns-in-Some : goal.returns-in-Some
returns-in-Some c =
    let s : GrowingState = c.in-Some.inner.value in
    let inside : c.paced.result.now ≡ s.paced = c.paced.ensures ∙ ap (λ (t : GrowingState). t.paced) c.deref.ensures in
    inside-read _ _ s _ c.in-Some.ensures.taken c.give.ensures refl did_in no_did c.did_crossing-in-Some.result
    (c.did_crossing-in-Some.ensures ∙ ap did_of (c.last_did.ensures ∙ ap (λ (p : PacedState). p.did) inside))
