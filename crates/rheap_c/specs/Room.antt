-- The bounds of a pace, told of the calls of a program in C, and what there is room for by them.
use Rattle.std.specs.Prelude.{◌≡◌, ◌↔◌, ◌⊎◌, ◌<◌, ◌≤◌, ◌+◌, ℕ, zero, suc, ℤ, false, All, List, [], ◌∷◌, length, Option, Some, None, Result, Err, slice_get, take}
use Rattle.rh_layout.specs.declared.command.Command.{Command}
use Rattle.rh_layout.specs.declared.command.RootId.{RootId}
use Rattle.rh_layout.specs.declared.command.Reply.{Reply}
use Rattle.rh_layout.specs.declared.refusal.Refusal.{Refusal}
use Rattle.rh_layout.specs.declared.refusal.Refusal.TheVariants.{SpaceFull}
use Rattle.rh_model.specs.Plain.{PlainHeap, graph_of}
use Rattle.rh_mutator.specs.StoringAll.{number_stores}
use Rattle.rh_pace.specs.InTime.{StayWithin, StaysWithin}
use Rattle.rh_pace.specs.Pace.{lag_of}
use Rattle.rh_pace.specs.Paced.{PacedState}
use Rattle.rh_pace.specs.PlainBounds.{AreBounded, IsBounded}
use Rattle.rh_pace.specs.Reachable.{ReachesAtMost}
use Rattle.rh_pace.specs.Reaching.{AreEpochsSpent}
use Rattle.rheap_c.specs.declared.numbers.RheapWords.{RheapWords}
use Rattle.rheap_c.specs.Read.{graph_in}
use Rattle.rheap_c.specs.Rows.{plain_refusal, ready_for, row_refusal}
use Rattle.rheap_c.specs.Runs.{Answer, AreMade, Call, after_call, after_calls, command_of, is_limit_status, plain_unless_limited, row_of}
use Rattle.rheap_c.specs.Runs.Call.{CollectsNow, InsistsOn, InsistsOnInts, StoresInts}

-- a command, where there is one, stays within the bounds of a pace
abbrev pub StaysWithinIfAny : ℕ → ℕ → PacedState → Option (ℕ × Command) → Type 0
StaysWithinIfAny live biggest s None = Unit {0}
StaysWithinIfAny live biggest s (Some c) = StaysWithin live biggest s c.0 c.1

-- a collection does, where it begins no cycle while more words are reached than may live
abbrev pub CollectsWithin : ℕ → PacedState → Type 0
CollectsWithin live s = s.heap.mutators.cycle ≡ false → ReachesAtMost (graph_in s) live

-- a row of numbers does, where its stores do, unless they are refused
abbrev pub RowStaysWithin : ℕ → ℕ → PacedState → ℕ → RootId → ℕ → List ℤ → Type 0
RowStaysWithin live biggest s owner object from numbers =
    row_refusal s owner object from numbers ≡ None
    → StayWithin live biggest s (number_stores owner object from numbers)

-- a call does, where what it does does
abbrev pub CallStaysWithin : ℕ → ℕ → PacedState → Call → Type 0
CallStaysWithin live biggest s CollectsNow = CollectsWithin live s
CallStaysWithin live biggest s (StoresInts owner object from numbers) =
    RowStaysWithin live biggest s owner object from numbers
CallStaysWithin live biggest s (InsistsOnInts owner object from numbers) =
    RowStaysWithin live biggest (ready_for s owner object from numbers) owner object from numbers
CallStaysWithin live biggest s call = StaysWithinIfAny live biggest s (command_of call)

-- so do calls, one after the other
abbrev pub CallsStayWithin : ℕ → ℕ → PacedState → List Call → Type 0
CallsStayWithin live biggest s [] = Unit {0}
CallsStayWithin live biggest s (call ∷ calls) =
    CallStaysWithin live biggest s call × CallsStayWithin live biggest (after_call s call) calls

-- a call insists on nothing
abbrev pub InsistsOnNothing : Call → Type 0
InsistsOnNothing (InsistsOn owner command) = ⊥
InsistsOnNothing (InsistsOnInts owner object from numbers) = ⊥
InsistsOnNothing call = Unit {0}

-- A call stores no row of more numbers than the log keeps entries beyond a lag. One that insists
-- may, since it empties the log.
abbrev pub RowFits : ℕ → ℕ → Call → Type 0
RowFits lag limit (StoresInts owner object from numbers) = lag + length numbers ≤ limit
RowFits lag limit call = Unit {0}

-- nor does the call at a position
abbrev pub RowFitsAt : ℕ → ℕ → List Call → ℕ → Type 0
RowFitsAt lag limit [] i = Unit {0}
RowFitsAt lag limit (call ∷ calls) zero = RowFits lag limit call
RowFitsAt lag limit (call ∷ calls) (suc i) = RowFitsAt lag limit calls i

-- The bounds told of a plain heap: a command, where there is one, is bounded on it.
abbrev pub IsBoundedIfAny : ℕ → ℕ → PlainHeap → Option (ℕ × Command) → Type 0
IsBoundedIfAny live biggest p None = Unit {0}
IsBoundedIfAny live biggest p (Some c) = IsBounded live biggest p c.0 c.1

-- the stores of a row are, where there is one, unless it refuses one of them
abbrev pub IsRowBounded : ℕ → ℕ → PlainHeap → Option (List (ℕ × Command)) → Type 0
IsRowBounded live biggest p None = Unit {0}
IsRowBounded live biggest p (Some row) = plain_refusal p row ≡ None → AreBounded live biggest p row

-- a call is, where what it does is; where it collects, no more words are reached than may live
abbrev pub IsCallBounded : ℕ → ℕ → PlainHeap → Call → Type 0
IsCallBounded live biggest p CollectsNow = ReachesAtMost (graph_of p) live
IsCallBounded live biggest p call =
    IsBoundedIfAny live biggest p (command_of call) × IsRowBounded live biggest p (row_of call)

-- so is each of a list, one after the other
abbrev pub AreCallsBounded : ℕ → ℕ → PlainHeap → List Call → Type 0
AreCallsBounded live biggest p [] = Unit {0}
AreCallsBounded live biggest p (call ∷ calls) =
    IsCallBounded live biggest p call
    × AreCallsBounded live biggest (plain_unless_limited false p call) calls

-- a call has the bounds of one command, on a heap and on a plain heap
abbrev pub IsBoundAs : ℕ → ℕ → Call → ℕ → Command → Type 0
IsBoundAs live biggest call owner command =
    ((s : PacedState) → CallsStayWithin live biggest s (call ∷ [])
    ↔ StaysWithin live biggest s owner command)
    × ((p : PlainHeap) → AreCallsBounded live biggest p (call ∷ [])
    ↔ IsBounded live biggest p owner command)

-- where an answer says that there is no room, in the space or in the log, the epochs were spent
-- before its call
abbrev pub AlwaysFindRoom : PacedState → List Call → List Answer → Type 0
AlwaysFindRoom s calls answers = (i : ℕ) (a : Answer) → slice_get answers i ≡ Some a
    → (a.status ≡ 8) ⊎ (a.status ≡ 9) → AreEpochsSpent (after_calls s (take i calls)).heap

-- the same of calls that fit beside the lag of a pace
abbrev pub FindRoomIfFit : ℕ → PacedState → List Call → List Answer → Type 0
FindRoomIfFit biggest s calls answers = (i : ℕ) (a : Answer) → slice_get answers i ≡ Some a
    → RowFitsAt (lag_of s.pace biggest) s.heap.mutators.config.log_limit calls i
    → (a.status ≡ 8) ⊎ (a.status ≡ 9) → AreEpochsSpent (after_calls s (take i calls)).heap

-- where an answer says so of the space alone, they were
abbrev pub AlwaysFindSpace : PacedState → List Call → List Answer → Type 0
AlwaysFindSpace s calls answers = (i : ℕ) (a : Answer) → slice_get answers i ≡ Some a
    → a.status ≡ 8 → AreEpochsSpent (after_calls s (take i calls)).heap

-- From here on calls within these bounds find room in the space, if they insist on nothing, and also in
-- the log, if it keeps more entries than the lag.
abbrev pub FindsRoom : ℕ → ℕ → PacedState → Type 0
FindsRoom live biggest s = (new : Option PacedState) (calls : List Call) (answers : List Answer)
    → AreMade (Some s) new calls answers → CallsStayWithin live biggest s calls
    → (All InsistsOnNothing calls → AlwaysFindSpace s calls answers)
    × (lag_of s.pace biggest < s.heap.mutators.config.log_limit → FindRoomIfFit biggest s calls answers)

-- an answer has no status of a limit
abbrev pub IsUnlimited : Answer → Type 0
IsUnlimited a = is_limit_status a.status ≡ false

-- where an answer says that there is no room, they were, up to the first with a limit's status
abbrev pub FindRoomToLimit : PacedState → List Call → List Answer → Type 0
FindRoomToLimit s calls answers = (i : ℕ) (a : Answer) → slice_get answers i ≡ Some a
    → All IsUnlimited (take i answers) → (a.status ≡ 8) ⊎ (a.status ≡ 9)
    → AreEpochsSpent (after_calls s (take i calls)).heap

-- the same of calls that fit beside the lag of a pace
abbrev pub FindRoomIfFitToLimit : ℕ → PacedState → List Call → List Answer → Type 0
FindRoomIfFitToLimit biggest s calls answers = (i : ℕ) (a : Answer) → slice_get answers i ≡ Some a
    → All IsUnlimited (take i answers)
    → RowFitsAt (lag_of s.pace biggest) s.heap.mutators.config.log_limit calls i
    → (a.status ≡ 8) ⊎ (a.status ≡ 9) → AreEpochsSpent (after_calls s (take i calls)).heap

-- the refusal that says so of the space, with these numbers, of which more is needed than is free
abbrev pub IsRefusedFor : RheapWords → Result Reply Refusal → Type 0
IsRefusedFor room told = (told ≡ Err (SpaceFull room.need room.free)) × (room.free < room.need)
