use Rattle.std.specs.List.{AllByRecursion}
use Rattle.std.specs.Vec.Iter.{into_iter_items}
use Rattle.rh_shared.specs.Start.{IsFresh}
use Rattle.shared_benches.proofs.players.players_of.Given as goal

-- nothing went through the ends that come next
abbrev pub invariant-loop-own : goal.invariant-loop-own
invariant-loop-own g l = AllByRecursion IsFresh (into_iter_items l.own-iterator)
