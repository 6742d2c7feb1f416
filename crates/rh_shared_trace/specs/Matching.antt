-- Which histories are of a trace: each owner's lines stand there, in order, with their answers.
use Rattle.std.specs.Prelude.{◌≡◌, ◌⊎◌, ℕ, ◌<◌, ◌==◌, Bool, true, false, ◌&&◌, is_some, if◌then◌else◌, List, [], ◌∷◌, map}
use Rattle.std.specs.List.{AllByRecursion}
use Rattle.rh_layout.specs.declared.command.Command.{Command}
use Rattle.rh_layout.specs.declared.command.Command.TheVariants.{Alloc, Raw, Load, Store, Copy, Same, Drop}
use Rattle.rh_layout.specs.Command.{made_by}
use Rattle.rh_syntax.specs.declared.request.Request.{Request}
use Rattle.rh_syntax.specs.declared.request.Request.TheVariants as requests
use Rattle.rh_syntax.specs.Spelling.{Script}
use Rattle.rh_replay.specs.declared.call.Call.{Call}
use Rattle.rh_shared.specs.Shares.{calls_of}
use Rattle.rh_shared_trace.specs.declared.trace_limits.TraceLimits.{TraceLimits}
use Rattle.rh_shared_trace.specs.Limiting.{limits_of}

-- the commands of an owner's lines, in order
abbrev pub lines_of : ℕ → List Request → List Command
lines_of owner [] = []
lines_of owner (requests.Command by command ∷ others) =
    if by == owner then command ∷ lines_of owner others else lines_of owner others
lines_of owner (other ∷ others) = lines_of owner others

-- whether a limit of the heap may refuse the command, of those that the trace may come to: only
-- these take room or a number
abbrev pub may_be_limited : TraceLimits → Command → Bool
may_be_limited limits (Store obj field operand) = limits.log
may_be_limited limits command = is_some (made_by command) && limits.space

-- a command may be left out: it may have been refused for a limit of the heap, or for a history that
-- is full
abbrev pub MayLeaveOut : TraceLimits → Bool → Command → Type 0
MayLeaveOut limits full command = (full ≡ true) ⊎ (may_be_limited limits command ≡ true)

-- the calls are of these commands, in order, each once; one without a call may be left out, for a
-- history that is full only after all calls, since from then on none is noted
abbrev pub AreCallsFor : TraceLimits → Bool → List Command → List Call → Type 0
AreCallsFor limits full [] [] = Unit {0}
AreCallsFor limits full [] (call ∷ calls) = ⊥
AreCallsFor limits full (command ∷ commands) [] =
    MayLeaveOut limits full command × AreCallsFor limits full commands []
AreCallsFor limits full (command ∷ commands) (call ∷ calls) =
    ((call.command ≡ command) × AreCallsFor limits full commands calls)
    ⊎ (MayLeaveOut limits false command × AreCallsFor limits full commands (call ∷ calls))

-- each call is of one of so many owners
abbrev pub HaveOwnersBelow : ℕ → List Call → Type 0
HaveOwnersBelow owners calls = AllByRecursion (λ call. call.owner < owners) calls

-- the calls are of the trace's owners, and each owner's calls are of its lines
pub record AreOfTrace (full : Bool) (script : Script) (calls : List Call) : Type 0 where
  pub owners : HaveOwnersBelow script.header.owners calls
  pub lines : (owner : ℕ) → owner < script.header.owners
      → AreCallsFor (limits_of script.header script.requests) full
      (lines_of owner script.requests) (calls_of owner calls)

-- Words of laws.

-- the commands of calls
abbrev pub commands_of : List Call → List Command
commands_of calls = map (λ call. call.command) calls

-- whether the command makes an object, raw or not
abbrev pub allocates : Command → Bool
allocates (Alloc dst fields) = true
allocates (Raw dst fields) = true
allocates command = false

-- whether it stores
abbrev pub stores : Command → Bool
stores (Store obj field operand) = true
stores command = false

-- whether it takes neither room nor a number: it loads, copies, compares or drops
abbrev pub takes_nothing : Command → Bool
takes_nothing (Load dst src field) = true
takes_nothing (Copy dst src) = true
takes_nothing (Same a b) = true
takes_nothing (Drop root) = true
takes_nothing command = false
