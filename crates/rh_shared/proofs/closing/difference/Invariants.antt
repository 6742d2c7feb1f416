use Rattle.std.proofs.Common.{◌≡◌, drop}
use Rattle.rh_shared.specs.Shares.{share_of}
use Rattle.rh_shared.proofs.closing.difference.Given as goal

abbrev pub invariant-loop-mutator : goal.invariant-loop-mutator
invariant-loop-mutator g l = share_of l.owner (drop l.mutator-index l.mutators) ≡ share_of l.owner l.mutators
