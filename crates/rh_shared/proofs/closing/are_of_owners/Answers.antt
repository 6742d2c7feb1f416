use Rattle.std.proofs.Common.{◌<◌, ◌≤◌, true, false, refl, sym, subst, ◌∙◌}
use Rattle.std.proofs.lemmas.Bool.{le-ltb, lt-ltb}
use Rattle.std.proofs.lemmas.List.{at_drop_all}
use Rattle.rh_shared.specs.Shares.{have_owners_below}
use Rattle.rh_shared.proofs.Differences.{next-below}
use Rattle.rh_shared.proofs.closing.are_of_owners.Goals as goal

pub loop-mutator-init : goal.loop-mutator-init
loop-mutator-init g c = refl

pub loop-mutator-preserved : goal.loop-mutator-preserved
loop-mutator-preserved g c =
    let owners = c.args.owners in
    let m = c.mutator-item.result in
    let less = lt-ltb m.owner owners (subst (λ n. n < owners) c.owner.ensures c.if-owner-owners.false) in
    sym (next-below owners c.loop-mutator.mutator-index c.args.mutators.now m true c.loop-mutator-test.true c.mutator-item.is less) ∙ c.loop-mutator.invariant

pub returns-then-owner-owners : goal.returns-then-owner-owners
returns-then-owner-owners g c =
    let owners = c.args.owners in
    let m = c.mutator-item.result in
    let past = le-ltb m.owner owners (subst (λ n. owners ≤ n) c.owner.ensures c.if-owner-owners.true) in
    sym (next-below owners c.loop-mutator.mutator-index c.args.mutators.now m false c.loop-mutator-test.true c.mutator-item.is past) ∙ c.loop-mutator.invariant

pub returns : goal.returns
returns g c =
    sym (at_drop_all (have_owners_below c.args.owners) c.args.mutators.now c.loop-mutator.mutator-index c.loop-mutator-test.false) ∙ c.loop-mutator.invariant
