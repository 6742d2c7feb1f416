use Rattle.std.proofs.Common.{◌≡◌}
use Rattle.rh_shared.specs.Shares.{first_mutators}
use Rattle.rh_shared.proofs.mutator.mutators_of.Given as goal

abbrev pub invariant-loop-owner : goal.invariant-loop-owner
invariant-loop-owner g l = l.mutators.items ≡ first_mutators l.owners l.slots l.limit l.owner
