use Rattle.std.proofs.Common.{◌≡◌, List, [], refl, sym, subst, ◌∙◌}
use Rattle.std.specs.Prelude.{IfNone, IfSome}
use Rattle.std.proofs.lemmas.Bool.{eq-eqb}
use Rattle.std.proofs.lemmas.List.{at_drop_all}
use Rattle.rh_replay.specs.declared.call.Call.{Call}
use Rattle.rh_shared.specs.Shares.{IsFirstDifference, calls_of, share_of}
use Rattle.rh_shared.proofs.Differences.{differ-eqb, next-share-other, own-share}
use Rattle.rh_shared.proofs.closing.difference.Goals as goal

pub loop-mutator-init : goal.loop-mutator-init
loop-mutator-init g c = refl

pub loop-mutator-preserved : goal.loop-mutator-preserved
loop-mutator-preserved g c =
    let owner = c.args.owner in
    let m = c.mutator-item.result in
    let other = differ-eqb m.owner owner (λ same. c.if-owner.false (c.owner.ensures ∙ same)) in
    sym (next-share-other owner c.loop-mutator.mutator-index c.args.mutators.now m c.loop-mutator-test.true c.mutator-item.is other) ∙ c.loop-mutator.invariant

pub returns-then-owner-clause-same : goal.returns-then-owner-clause-same
returns-then-owner-clause-same g c =
    let owner = c.args.owner in
    let ms = c.args.mutators.now in
    let m = c.mutator-item.result in
    let own = eq-eqb m.owner owner (sym c.owner.ensures ∙ c.if-owner.true) in
    let share_is : c.calls.result.now ≡ share_of owner ms =
    own-share owner c.loop-mutator.mutator-index ms m c.calls.result.now c.loop-mutator-test.true c.mutator-item.is own c.calls.ensures
    c.loop-mutator.invariant in
    subst (λ (share : List Call). IfNone c.difference_of.result (share ≡ calls_of owner c.args.calls.now)) share_is c.difference_of.ensures.same

pub returns-then-owner-clause-differs : goal.returns-then-owner-clause-differs
returns-then-owner-clause-differs g c =
    let owner = c.args.owner in
    let ms = c.args.mutators.now in
    let m = c.mutator-item.result in
    let own = eq-eqb m.owner owner (sym c.owner.ensures ∙ c.if-owner.true) in
    let share_is : c.calls.result.now ≡ share_of owner ms =
    own-share owner c.loop-mutator.mutator-index ms m c.calls.result.now c.loop-mutator-test.true c.mutator-item.is own c.calls.ensures
    c.loop-mutator.invariant in
    subst (λ (share : List Call). IfSome c.difference_of.result (λ at. IsFirstDifference share (calls_of owner c.args.calls.now) at))
    share_is c.difference_of.ensures.differs

pub returns-clause-same : goal.returns-clause-same
returns-clause-same g c =
    let owner = c.args.owner in
    let ms = c.args.mutators.now in
    let none : [] ≡ share_of owner ms =
    sym (at_drop_all (share_of owner) ms c.loop-mutator.mutator-index c.loop-mutator-test.false) ∙ c.loop-mutator.invariant in
    subst (λ (share : List Call). IfNone c.difference_of-2.result (share ≡ calls_of owner c.args.calls.now)) none c.difference_of-2.ensures.same

pub returns-clause-differs : goal.returns-clause-differs
returns-clause-differs g c =
    let owner = c.args.owner in
    let ms = c.args.mutators.now in
    let none : [] ≡ share_of owner ms =
    sym (at_drop_all (share_of owner) ms c.loop-mutator.mutator-index c.loop-mutator-test.false) ∙ c.loop-mutator.invariant in
    subst (λ (share : List Call). IfSome c.difference_of-2.result (λ at. IsFirstDifference share (calls_of owner c.args.calls.now) at))
    none c.difference_of-2.ensures.differs
