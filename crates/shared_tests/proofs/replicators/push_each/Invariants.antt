use Rattle.std.proofs.Common.{◌≡◌}
use Rattle.shared_tests.proofs.replicators.push_each.Given as goal

-- the rings are those of the beginning
abbrev pub invariant-loop-row : goal.invariant-loop-row
invariant-loop-row g l =
    (l.link.ring.pieces_ring ≡ l.fn.link.ring.pieces_ring)
    × (l.link.ring.replicas_ring ≡ l.fn.link.ring.replicas_ring)
