use Rattle.std.specs.List.{AllByRecursion}
use Rattle.std.specs.Vec.Iter.{into_iter_items}
use Rattle.rh_collector.specs.Settling.{IsNewHere, pairs_of}
use Rattle.shared_tests.specs.Beside.{AreEndsOf}
use Rattle.shared_tests.proofs.settled.replicators_of.Given as goal

-- the ends that come next are new, and the replicators so far have theirs
abbrev pub invariant-loop-own : goal.invariant-loop-own
invariant-loop-own g l =
    let rings = l.fn._kept.collector.rings in
    AllByRecursion (IsNewHere rings) (into_iter_items l.own-iterator)
    × AllByRecursion (λ own. AreEndsOf (pairs_of rings) own.0) l.all.items
