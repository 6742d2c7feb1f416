use Rattle.std.proofs.Common.{◌↔◌, [], drop}
use Rattle.rh_shared_trace.specs.Matching.{AreCallsFor, lines_of}
use Rattle.rh_shared_trace.proofs.matching.may_all_be_left_out.Given as goal

-- all lines may be left out exactly where the rest may
abbrev pub invariant-loop-request : goal.invariant-loop-request
invariant-loop-request l =
    AreCallsFor l.limits l.is_full (lines_of l.owner (drop l.request-index l.requests)) []
    ↔ AreCallsFor l.limits l.is_full (lines_of l.owner l.requests) []
