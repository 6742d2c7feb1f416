use Rattle.std.proofs.Common.{◌≡◌}
use Rattle.shared_tests.proofs.replicators.step_each.Given as goal

-- the rings are those of the beginning
abbrev pub invariant-loop-row : goal.invariant-loop-row
invariant-loop-row g l =
    (l.replicator.pieces_ring ≡ l.fn.replicator.pieces_ring)
    × (l.replicator.replicas_ring ≡ l.fn.replicator.replicas_ring)
