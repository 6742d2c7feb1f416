use Rattle.std.proofs.Common.{List, subst}
use Rattle.rh_shared.specs.Shares.{HasShares, IsOneEach, MutatorState}
use Rattle.rh_shared.proofs.SharesTogether.{together-all}
use Rattle.rh_shared.proofs.closing.close.Goals as goal

pub returns-in-None-clause-closed : goal.returns-in-None-clause-closed
returns-in-None-clause-closed g c =
    let kept = c.into_kept-kept.result in
    subst (λ (ms : List MutatorState). IsOneEach kept.collector.heap.mutators.roots.owners ms × HasShares ms kept.recorder.history.calls) c.deref.ensures.value c.in-None.ensures.closed

pub returns-in-None-clause-whole : goal.returns-in-None-clause-whole
returns-in-None-clause-whole g c =
    let kept = c.into_kept-kept.result in
    let closed = returns-in-None-clause-closed g c in
    together-all kept.collector.heap.mutators.roots.owners c.args.mutators.items kept.recorder.history.calls closed.0 closed.1
