use Rattle.std.proofs.Common.{◌≡◌, ℕ, ◌<◌}
use Rattle.rh_shared.specs.Shares.{calls_of, share_of}
use Rattle.rh_shared.proofs.closing.why_not_closed.Given as goal

abbrev pub invariant-loop-owner : goal.invariant-loop-owner
invariant-loop-owner g l = (o : ℕ) → o < l.owner → share_of o l.mutators ≡ calls_of o l.calls
