use Rattle.std.proofs.Common.{◌+◌, ◌≤◌, length}
use Rattle.shared_benches.proofs.folds.fold_in_place.Given as goal

-- the replica has room for the items of any piece
abbrev pub invariant-loop : goal.invariant-loop
invariant-loop g l = 64 ≤ length l.replica.entries + l.replica.room
