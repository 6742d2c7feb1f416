use Rattle.std.proofs.Common.{◌≡◌, ◌+◌, drop, true, sym, subst, arith}
use Rattle.std.proofs.lemmas.List.{drop_all}
use Rattle.rh_shared.specs.Shares.{calls_of}
use Rattle.rh_shared.proofs.Differences.{Goes, differs-at_end, found-within, goes-other, goes-own, goes-wrong}
use Rattle.rh_shared.proofs.closing.difference_of.Goals as goal
use Rattle.rh_shared.proofs.closing.difference_of.Goals.{then-call-owner+else-not-stands_at, else-call-owner}

pub returns-then-not-stands_at-clause-differs : goal.returns-then-not-stands_at-clause-differs
returns-then-not-stands_at-clause-differs c =
    goes-wrong c.args.owner c.loop-call.call-index c.loop-call.found c.args.share.now c.args.calls.now _ c.loop-call-test.true c.if-call-owner.true c.loop-call.invariant.within
    (λ stands. let yes : c.stands_at.result ≡ true = c.stands_at.ensures.1 stands in cc (yes, c.if-not-stands_at.true)) c.loop-call.invariant.goes

pub loop-call-preserved : goal.loop-call-preserved
loop-call-preserved c =
    let loop = c.loop-call in
    let share = c.args.share.now in
    let calls = c.args.calls.now in
    elim c.if-call-owner.branch [
      | then-call-owner+else-not-stands_at w ↦
          let stands = w.stands_at.ensures.0 w.if-not-stands_at.false in
          record {
            goes =
                subst (λ n. Goes n share (calls_of c.args.owner (drop (loop.call-index + 1) calls)) (calls_of c.args.owner calls)) (sym w.found-is)
                (goes-own c.args.owner loop.call-index loop.found share calls _ c.loop-call-test.true w.if-call-owner.true stands loop.invariant.goes);
            within = omega (arith, w.found-is, found-within loop.found share _ stands);
            few = omega (arith, w.found-is, loop.invariant.few);
          }
      | else-call-owner w ↦
          record {
            goes =
                subst (λ n. Goes n share (calls_of c.args.owner (drop (loop.call-index + 1) calls)) (calls_of c.args.owner calls)) (sym w.found-is)
                (goes-other c.args.owner loop.call-index loop.found share calls _ c.loop-call-test.true w.if-call-owner.false loop.invariant.goes);
            within = omega (arith, w.found-is, loop.invariant.within);
            few = omega (arith, w.found-is, loop.invariant.few);
          }
    ]

pub returns-then-found-share-clause-differs : goal.returns-then-found-share-clause-differs
returns-then-found-share-clause-differs c =
    let calls = c.args.calls.now in
    let none = drop_all c.loop-call.call-index calls c.loop-call-test.false in
    differs-at_end c.loop-call.found c.args.share.now (calls_of c.args.owner calls) c.if-found-share.true
    (subst (λ rest. Goes c.loop-call.found c.args.share.now (calls_of c.args.owner rest) (calls_of c.args.owner calls)) none c.loop-call.invariant.goes)
