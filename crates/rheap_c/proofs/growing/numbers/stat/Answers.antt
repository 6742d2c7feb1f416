use Rattle.std.proofs.Common.{◌≡◌, refl, ap, ◌∙◌}
use Rattle.rh_core.specs.Stat.{stat_of}
use Rattle.rh_pace.specs.Paced.{PacedState}
use Rattle.rh_growing.specs.Growing.{GrowingState}
use Rattle.rheap_c.specs.Numbers.{no_stats, stats_of, stats_of_stat}
use Rattle.rheap_c.proofs.Inside.{inside-read}
use Rattle.rheap_c.proofs.growing.numbers.stat.Goals as goal

pub returns-in-Some : goal.returns-in-Some
returns-in-Some c =
    let s : GrowingState = c.in-Some.inner.value in
    let inside : c.paced.result.now ≡ s.paced = c.paced.ensures ∙ ap (λ (t : GrowingState). t.paced) c.deref.ensures in
    inside-read _ _ s _ c.in-Some.ensures.taken c.give.ensures refl stats_of no_stats c.stats_crossing.result
    (c.stats_crossing.ensures ∙ ap stats_of_stat (c.stat.ensures ∙ ap (λ (p : PacedState). stat_of p.heap) inside))
