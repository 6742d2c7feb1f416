use Rattle.std.proofs.Common.{◌↔◌, drop}
use Rattle.rh_shared_trace.specs.Matching.{HaveOwnersBelow}
use Rattle.rh_shared_trace.proofs.matching.have_owners_below.Given as goal

-- it is so of all calls exactly where it is so of the rest
abbrev pub invariant-loop-call : goal.invariant-loop-call
invariant-loop-call l =
    HaveOwnersBelow l.owners (drop l.call-index l.calls) ↔ HaveOwnersBelow l.owners l.calls
