use Rattle.std.proofs.Common.{◌≡◌, ◌+◌, drop}
use Rattle.rh_shared_trace.specs.Limiting.{taken_by_all}
use Rattle.rh_shared_trace.proofs.limiting.are_within.Given as goal

-- what all lines take and what is left is what the rest of them take and all that there is
abbrev pub invariant-loop-request : goal.invariant-loop-request
invariant-loop-request l =
    taken_by_all l.limit l.requests + l.left ≡ taken_by_all l.limit (drop l.request-index l.requests) + l.most
