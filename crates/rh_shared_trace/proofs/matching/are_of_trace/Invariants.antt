use Rattle.std.proofs.Common.{ℕ, ◌<◌}
use Rattle.rh_shared.specs.Shares.{calls_of}
use Rattle.rh_shared_trace.specs.Matching.{AreCallsFor, lines_of}
use Rattle.rh_shared_trace.proofs.matching.are_of_trace.Given as goal

-- the calls of each owner so far are of its lines
abbrev pub invariant-loop-owner : goal.invariant-loop-owner
invariant-loop-owner g l =
    (o : ℕ) → o < l.owner → AreCallsFor l.limits l.is_full (lines_of o l.trace.requests) (calls_of o l.calls)
