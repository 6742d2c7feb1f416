use Rattle.std.proofs.Common.{ap, sym, ◌∙◌}
use Rattle.rh_collector.specs.declared.did.Did.{Did}
use Rattle.rh_shared.specs.Kept.{kept_increment}
use Rattle.rh_shared.proofs.call_laws.an_increment_under_a_lock_begins_a_cycle_below_the_mark.Goals as goal

pub returns-clause-began : goal.returns-clause-began
unfolding kept_increment
returns-clause-began g c = λ did does.
    let law = c.an_increment_begins_a_cycle_below_the_mark.ensures.began does.met does.held.collector in
    (λ began. law.0 (sym (ap (λ (d : Did). d.began) does.does) ∙ began), λ below. ap (λ (d : Did). d.began) does.does ∙ law.1 below)

pub returns-clause-outside : goal.returns-clause-outside
unfolding kept_increment
returns-clause-outside g c = λ did does none began.
    let law = c.an_increment_begins_a_cycle_below_the_mark.ensures.outside does.met does.held.collector none (sym (ap (λ (d : Did). d.began) does.does) ∙ began) in
    does.does ∙ ap (λ p. p.1) law
