use Rattle.std.proofs.Common.{◌≡◌, refl, ap, ◌∙◌}
use Rattle.rh_growing.specs.Growing.{GrowingState}
use Rattle.rheap_c.specs.Cycles.{ReadsCycle}
use Rattle.rheap_c.proofs.Untouched.{inside-kept, reads}
use Rattle.rheap_c.proofs.growing.views.cycle.Goals as goal

pub returns-in-Some : goal.returns-in-Some
returns-in-Some c =
    let s : GrowingState = c.in-Some.inner.value in
    let inside : c.paced.result.now ≡ s.paced = c.paced.ensures ∙ ap (λ (g : GrowingState). g.paced) c.deref.ensures in
    inside-kept (λ o n. ReadsCycle o n c.args.reader.now c.read.new.reader c.read.result 0)
    _ _ s s c.in-Some.ensures.taken c.give.ensures refl
    (reads s.paced c.paced.result.now inside c.args.reader.now c.read.new.reader c.read.result c.read.ensures.reader c.read.ensures.told)
