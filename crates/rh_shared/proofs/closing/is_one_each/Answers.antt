use Rattle.std.proofs.Common.{arith, refl, sym, ◌∙◌}
use Rattle.std.proofs.lemmas.Bool.{false≢true}
use Rattle.rh_shared.proofs.Differences.{counts-through, not_one_each-count, not_one_each-strangers, one_each-where}
use Rattle.rh_shared.proofs.closing.is_one_each.Goals as goal

pub returns-then-not-are_of_owners : goal.returns-then-not-are_of_owners
returns-then-not-are_of_owners g c = (
  λ yes. absurd (false≢true yes),
  λ each. absurd (not_one_each-strangers c.args.owners c.args.mutators.now (sym c.are_of_owners.ensures ∙ c.if-not-are_of_owners.true) each),
)

pub returns : goal.returns
returns g c = (
  λ yes.
      one_each-where c.args.owners c.args.mutators.now (sym c.are_of_owners.ensures ∙ c.if-not-are_of_owners.false)
      (λ o within. c.loop-owner.invariant o (omega (arith, within, c.loop-owner-test.false))),
  λ each. refl,
)

pub loop-owner-init : goal.loop-owner-init
loop-owner-init g c = λ o none. absurd (omega (arith, none))

pub loop-owner-preserved : goal.loop-owner-preserved
loop-owner-preserved g c =
    counts-through c.loop-owner.owner c.args.mutators.now c.loop-owner.invariant (sym c.count_for.ensures ∙ c.if-count_for-ne1.false)

pub returns-then-count_for-ne1 : goal.returns-then-count_for-ne1
returns-then-count_for-ne1 g c = (
  λ yes. absurd (false≢true yes),
  λ each.
      absurd (not_one_each-count c.args.owners c.loop-owner.owner c.args.mutators.now c.loop-owner-test.true
      (λ one. c.if-count_for-ne1.true (c.count_for.ensures ∙ one)) each),
)
