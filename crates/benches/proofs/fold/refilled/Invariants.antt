use Rattle.std.proofs.Common.{◌+◌, ◌≤◌, length}
use Rattle.benches.proofs.fold.refilled.Given as goal

abbrev pub invariant-loop-number : goal.invariant-loop-number
invariant-loop-number l = 64 ≤ length l.replica.entries + l.replica.room
