use Rattle.std.proofs.Common.{ap, ◌∙◌}
use Rattle.rh_growing.specs.Growing.{GrowingState}
use Rattle.rheap_c.specs.Views.{IsReleased}
use Rattle.rheap_c.proofs.Untouched.{inside-kept, releases}
use Rattle.rheap_c.proofs.growing.views.release.Goals as goal

pub returns-in-Some : goal.returns-in-Some
returns-in-Some c =
    inside-kept (λ o n. IsReleased o n c.release_status-status.result)
    _ _ c.in-Some.inner.value _ c.in-Some.ensures.taken c.give.ensures (c.release.ensures.same ∙ c.deref_mut.ensures.value)
    (releases c.in-Some.inner.value.paced c.deref_mut.result.now.paced (ap (λ (g : GrowingState). g.paced) c.deref_mut.ensures.value)
    c.release.result c.release.ensures.on c.release_status-status.result c.release_status-status.ensures)
