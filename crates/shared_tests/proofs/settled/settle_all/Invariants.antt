use Rattle.std.proofs.Common.{◌≡◌}
use Rattle.std.specs.List.{AllByRecursion}
use Rattle.std.specs.Vec.Iter.{into_iter_items}
use Rattle.rh_collector.specs.Settling.{pairs_of}
use Rattle.shared_tests.specs.Beside.{AreEndsOf}
use Rattle.shared_tests.proofs.settled.settle_all.Given as goal

-- the heap has its rings still, and the replicators that come next have ends of them
abbrev pub invariant-loop-own : goal.invariant-loop-own
invariant-loop-own g l =
    (pairs_of l.kept.collector.rings ≡ g.B.Rings.pairs)
    × AllByRecursion (λ own. AreEndsOf g.B.Rings.pairs own.0) (into_iter_items l.own-iterator)
