use Rattle.std.proofs.Common.{◌↔◌, drop}
use Rattle.rh_shared.specs.Shares.{calls_of}
use Rattle.rh_shared_trace.specs.Matching.{AreCallsFor, lines_of}
use Rattle.rh_shared_trace.proofs.matching.are_of_lines.Given as goal

-- it is so of all calls and lines exactly where it is so of the rest of both
abbrev pub invariant-loop-call : goal.invariant-loop-call
invariant-loop-call l =
    AreCallsFor l.limits l.is_full (lines_of l.owner l.rest) (calls_of l.owner (drop l.call-index l.calls))
    ↔ AreCallsFor l.limits l.is_full (lines_of l.owner l.requests) (calls_of l.owner l.calls)
