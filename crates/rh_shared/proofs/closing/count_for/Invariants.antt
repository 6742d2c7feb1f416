use Rattle.std.proofs.Common.{◌≡◌, ◌+◌, ◌≤◌, drop}
use Rattle.rh_shared.specs.Shares.{mutator_count}
use Rattle.rh_shared.proofs.closing.count_for.Given as goal

abbrev pub invariant-loop-mutator : goal.invariant-loop-mutator
invariant-loop-mutator g l = record {
  counts : l.count + mutator_count l.owner (drop l.mutator-index l.mutators) ≡ mutator_count l.owner l.mutators;
  few : l.count ≤ l.mutator-index;
}
