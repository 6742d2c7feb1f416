use Rattle.std.proofs.Common.{◌≡◌, ◌↔◌, Bool, List, ◌∷◌, length}
use Rattle.rh_replay.specs.declared.call.Call.{Call}
use Rattle.rh_shared_trace.specs.Matching.{AreCallsFor, lines_of}
use Rattle.rh_shared_trace.proofs.matching.after_line.Given as goal

-- calls, of which the first is of this command, are of all lines exactly where they are of the rest
-- of them
abbrev pub invariant-loop-request : goal.invariant-loop-request
invariant-loop-request l =
    (full : Bool) (call : Call) (calls : List Call) → call.command ≡ l.command
    → AreCallsFor l.limits full (lines_of l.owner l.rest) (call ∷ calls)
    ↔ AreCallsFor l.limits full (lines_of l.owner l.requests) (call ∷ calls)

abbrev pub decreases-loop-request : goal.decreases-loop-request
decreases-loop-request l = length l.rest
