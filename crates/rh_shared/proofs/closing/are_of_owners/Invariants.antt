use Rattle.std.proofs.Common.{◌≡◌, drop}
use Rattle.rh_shared.specs.Shares.{have_owners_below}
use Rattle.rh_shared.proofs.closing.are_of_owners.Given as goal

abbrev pub invariant-loop-mutator : goal.invariant-loop-mutator
invariant-loop-mutator g l = have_owners_below l.owners (drop l.mutator-index l.mutators) ≡ have_owners_below l.owners l.mutators
