use Rattle.std.proofs.Common.{◌≡◌, ℕ, ◌<◌}
use Rattle.rh_shared.specs.Shares.{mutator_count}
use Rattle.rh_shared.proofs.closing.is_one_each.Given as goal

abbrev pub invariant-loop-owner : goal.invariant-loop-owner
invariant-loop-owner g l = (o : ℕ) → o < l.owner → mutator_count o l.mutators ≡ 1
