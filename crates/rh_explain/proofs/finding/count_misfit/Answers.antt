use Rattle.std.proofs.Common.{refl, inr, arith}
use Rattle.rh_text.specs.lemmas.Cuts.{more_parts}
use Rattle.rh_explain.proofs.Walk.{filled}
use Rattle.rh_explain.proofs.finding.count_misfit.Goals as goal

pub returns-in-Some-rest : goal.returns-in-Some-rest
returns-in-Some-rest c =
    let more = filled _ (more_parts c.loop-index.rest c.in-Some-rest.field-0 c.in-Some-rest.is) in
    (inr (omega (arith, more, c.loop-index.invariant, c.loop-index-test.false, c.loop-index.auto.index-end), refl), refl)
