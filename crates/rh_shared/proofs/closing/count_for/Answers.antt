use Rattle.std.proofs.Common.{true, false, sym, ◌∙◌, arith}
use Rattle.std.proofs.lemmas.Bool.{eq-eqb}
use Rattle.std.proofs.lemmas.List.{at_drop_all}
use Rattle.rh_shared.specs.Shares.{mutator_count}
use Rattle.rh_shared.proofs.Differences.{differ-eqb, next-count}
use Rattle.rh_shared.proofs.closing.count_for.Goals as goal
use Rattle.rh_shared.proofs.closing.count_for.Goals.{then-owner, else-owner}

pub loop-mutator-init : goal.loop-mutator-init
loop-mutator-init g c = record { counts = omega arith; few = omega arith }

pub loop-mutator-preserved : goal.loop-mutator-preserved
loop-mutator-preserved g c =
    let owner = c.args.owner in
    let loop = c.loop-mutator in
    let m = c.mutator-item.result in
    elim c.if-owner.branch [
      | then-owner w ↦
          let own = eq-eqb m.owner owner (sym c.owner.ensures ∙ w.if-owner.true) in
          let step = next-count owner loop.mutator-index c.args.mutators.now m true c.loop-mutator-test.true c.mutator-item.is own in
          record { counts = omega (arith, w.count-is, step, loop.invariant.counts); few = omega (arith, w.count-is, loop.invariant.few) }
      | else-owner w ↦
          let other = differ-eqb m.owner owner (λ same. w.if-owner.false (c.owner.ensures ∙ same)) in
          let step = next-count owner loop.mutator-index c.args.mutators.now m false c.loop-mutator-test.true c.mutator-item.is other in
          record { counts = omega (arith, w.count-is, step, loop.invariant.counts); few = omega (arith, w.count-is, loop.invariant.few) }
    ]

pub returns : goal.returns
returns g c =
    let ms = c.args.mutators.now in
    omega (arith, at_drop_all (mutator_count c.args.owner) ms c.loop-mutator.mutator-index c.loop-mutator-test.false, c.loop-mutator.invariant.counts)
