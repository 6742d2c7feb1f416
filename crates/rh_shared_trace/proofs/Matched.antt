-- A call is of the first of its owner's lines with its command, if it is of any.
use Rattle.std.proofs.Common.{◌≡◌, ◌↔◌, Bool, false, List, [], ◌∷◌, inl, inr, sym, subst}
use Rattle.rh_layout.specs.declared.command.Command.{Command}
use Rattle.rh_replay.specs.declared.call.Call.{Call}
use Rattle.rh_shared_trace.specs.declared.trace_limits.TraceLimits.{TraceLimits}
use Rattle.rh_shared_trace.specs.Matching.{AreCallsFor, MayLeaveOut}

-- what may be left out anywhere may be after the last call
left_out-last : (limits : TraceLimits) (full : Bool) (line : Command) → MayLeaveOut limits false line → MayLeaveOut limits full line
left_out-last limits full line (inl never) = absurd (cc never)
left_out-last limits full line (inr may) = inr may

left_out-first : (limits : TraceLimits) (full : Bool) (line : Command) (lines : List Command) (calls : List Call) → MayLeaveOut limits false line
    → AreCallsFor limits full lines calls → AreCallsFor limits full (line ∷ lines) calls
left_out-first limits full line lines [] may are = (left_out-last limits full line may, are)
left_out-first limits full line lines (call ∷ calls) may are = inr (may, are)

-- without its first call, where that one's command may be left out
called-less : (limits : TraceLimits) (full : Bool) (lines : List Command) (call : Call) (calls : List Call) → MayLeaveOut limits false call.command
    → AreCallsFor limits full lines (call ∷ calls) → AreCallsFor limits full lines calls
called-less limits full [] call calls may are = absurd are
called-less limits full (line ∷ lines) call calls may (inl one) =
    left_out-first limits full line lines calls (subst (λ command. MayLeaveOut limits false command) one.0 may) one.1
called-less limits full (line ∷ lines) call calls may (inr left) =
    left_out-first limits full line lines calls left.0 (called-less limits full lines call calls may left.1)

-- a call of the first line's command may be taken for that line's
pub called-first : (limits : TraceLimits) (full : Bool) (line : Command) (lines : List Command) (call : Call) (calls : List Call) → call.command ≡ line
    → AreCallsFor limits full lines calls ↔ AreCallsFor limits full (line ∷ lines) (call ∷ calls)
called-first limits full line lines call calls same = (λ are. inl (same, are), λ are. by are)
  where
    by : AreCallsFor limits full (line ∷ lines) (call ∷ calls) → AreCallsFor limits full lines calls
    by (inl one) = one.1
    by (inr left) = called-less limits full lines call calls (subst (λ command. MayLeaveOut limits false command) (sym same) left.0) left.1
