use Rattle.std.proofs.Common.{◌≡◌, List, refl, sym, ap, subst, ◌∙◌, arith}
use Rattle.rh_mutator.specs.declared.config.Config.{Config}
use Rattle.rh_core.specs.Heap.{HeapState}
use Rattle.rh_replay.specs.declared.call.Call.{Call}
use Rattle.rh_replay.specs.History.{HistoryState}
use Rattle.rh_shared.specs.Shares.{HasShares, HistoryDiffersAt, IsOneEach}
use Rattle.rh_shared.proofs.Differences.{shares-through, stranger-differs, stranger-none}
use Rattle.rh_shared.proofs.closing.why_not_closed.Goals as goal

-- the owners and the calls that were compared are those of what the lock held
pub returns-in-Some-least_stranger-clause-why : goal.returns-in-Some-least_stranger-clause-why
returns-in-Some-least_stranger-clause-why g c =
    let ms = c.args.mutators.now in
    let owners = c.config-owners.result.owners in
    let calls = c.calls-calls.result.now in
    let kept = c.args.kept.now in
    let owners_are : owners ≡ kept.collector.heap.mutators.roots.owners =
    ap (λ (d : Config). d.owners) c.config-owners.ensures.config ∙ sym c.config-owners.ensures.heap.mutators.owners
    ∙ ap (λ (h : HeapState). h.mutators.roots.owners) c.heap.ensures.heap in
    let calls_are : calls ≡ kept.recorder.history.calls = c.calls-calls.ensures.calls ∙ ap (λ (h : HistoryState). h.calls) c.history.ensures.history in
    let each : IsOneEach owners ms = c.if-not-is_one_each.ensures.0 refl in
    let differs = stranger-differs owners c.in-Some-least_stranger.owner ms calls each (λ o within. c.loop-owner.invariant o (omega (arith, within, c.loop-owner-test.false))) c.in-Some-least_stranger.ensures in (
      subst (λ n. IsOneEach n ms) owners_are each,
      subst (λ (cs : List Call). HistoryDiffersAt ms cs c.in-Some-least_stranger.owner 1) calls_are differs,
    )

pub returns-in-None-clause-closed : goal.returns-in-None-clause-closed
returns-in-None-clause-closed g c =
    let ms = c.args.mutators.now in
    let owners = c.config-owners.result.owners in
    let calls = c.calls-calls.result.now in
    let kept = c.args.kept.now in
    let owners_are : owners ≡ kept.collector.heap.mutators.roots.owners =
    ap (λ (d : Config). d.owners) c.config-owners.ensures.config ∙ sym c.config-owners.ensures.heap.mutators.owners
    ∙ ap (λ (h : HeapState). h.mutators.roots.owners) c.heap.ensures.heap in
    let calls_are : calls ≡ kept.recorder.history.calls = c.calls-calls.ensures.calls ∙ ap (λ (h : HistoryState). h.calls) c.history.ensures.history in
    let each : IsOneEach owners ms = c.if-not-is_one_each.ensures.0 refl in
    let same : HasShares ms calls = stranger-none owners ms calls each (λ o within. c.loop-owner.invariant o (omega (arith, within, c.loop-owner-test.false))) c.in-None.ensures in
    (subst (λ n. IsOneEach n ms) owners_are each, subst (λ (cs : List Call). HasShares ms cs) calls_are same)

pub returns-in-Some-clause-why : goal.returns-in-Some-clause-why
returns-in-Some-clause-why g c =
    let ms = c.args.mutators.now in
    let owners = c.config-owners.result.owners in
    let calls = c.calls-calls.result.now in
    let kept = c.args.kept.now in
    let owners_are : owners ≡ kept.collector.heap.mutators.roots.owners =
    ap (λ (d : Config). d.owners) c.config-owners.ensures.config ∙ sym c.config-owners.ensures.heap.mutators.owners
    ∙ ap (λ (h : HeapState). h.mutators.roots.owners) c.heap.ensures.heap in
    let calls_are : calls ≡ kept.recorder.history.calls = c.calls-calls.ensures.calls ∙ ap (λ (h : HistoryState). h.calls) c.history.ensures.history in
    let each : IsOneEach owners ms = c.if-not-is_one_each.ensures.0 refl in
    let differs : HistoryDiffersAt ms calls c.loop-owner.owner c.in-Some.at = record { differs = c.in-Some.ensures.differs; least = c.loop-owner.invariant } in (
      subst (λ n. IsOneEach n ms) owners_are each,
      subst (λ (cs : List Call). HistoryDiffersAt ms cs c.loop-owner.owner c.in-Some.at) calls_are differs,
    )

pub loop-owner-preserved : goal.loop-owner-preserved
loop-owner-preserved g c = shares-through c.loop-owner.owner c.args.mutators.now c.calls-calls.result.now c.loop-owner.invariant c.in_default.ensures.same
