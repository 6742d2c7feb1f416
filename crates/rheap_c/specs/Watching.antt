-- What a call of C's does with tickets that watch objects, by the state of the handle before and
-- after it. Where no heap is open it does nothing, with status 12.
use Rattle.std.specs.Prelude.{◌≡◌, ℕ, ◌+◌, ◌<◌, ◌≤◌, ◌⊎◌, Bool, true, false, length, Option, Some, None, is_some, Result, Ok, Err}
use Rattle.rh_layout.specs.declared.command.RootId.{RootId}
use Rattle.rh_core.specs.declared.errors.WatchError.{WatchError}
use Rattle.rh_core.specs.declared.errors.WatchError.TheVariants.{NoRoot, NotYours, NotObject, Full}
use Rattle.rh_core.specs.Watching.{next_gone_step, unwatch_step, watch_step, with_watch_room}
use Rattle.rh_pace.specs.Paced.{PacedState}
use Rattle.rh_pace.specs.Watching.{with_heap}
use Rattle.rheap_c.specs.Numbers.{bit_of}

-- the status of a refused watch: those of other refusals, and 17 where no ticket is free
abbrev pub status_of_watch_error : WatchError → ℕ
status_of_watch_error NoRoot = 1
status_of_watch_error NotYours = 2
status_of_watch_error NotObject = 3
status_of_watch_error Full = 17

-- the status of a watch, and the ticket that is told: 0 after a refusal
abbrev pub watch_status : Result ℕ WatchError → ℕ
watch_status (Ok ticket) = 0
watch_status (Err why) = status_of_watch_error why

abbrev pub watch_ticket : Result ℕ WatchError → ℕ
watch_ticket (Ok ticket) = ticket
watch_ticket (Err why) = 0

-- A call that watches the object of a root, and tells its ticket.
abbrev pub IsWatched : Option PacedState → Option PacedState → ℕ → RootId → ℕ → ℕ → Type 0
IsWatched None new owner root status ticket = (new ≡ None) × (status ≡ 12) × (ticket ≡ 0)
IsWatched (Some s) new owner root status ticket =
    (new ≡ Some (with_heap s (watch_step s.heap owner root).0))
    × (status ≡ watch_status (watch_step s.heap owner root).1)
    × (ticket ≡ watch_ticket (watch_step s.heap owner root).1)

-- the status of a ticket that was to be freed: 18 where it watched nothing
abbrev pub unwatch_status : Bool → ℕ
unwatch_status true = 0
unwatch_status false = 18

-- A call that frees a ticket.
abbrev pub IsUnwatched : Option PacedState → Option PacedState → ℕ → ℕ → Type 0
IsUnwatched None new ticket status = (new ≡ None) × (status ≡ 12)
IsUnwatched (Some s) new ticket status =
    (new ≡ Some (with_heap s (unwatch_step s.heap ticket).0))
    × (status ≡ unwatch_status (unwatch_step s.heap ticket).1)

-- the ticket that is told to be gone, and 0 where none is
abbrev pub gone_ticket : Option ℕ → ℕ
gone_ticket None = 0
gone_ticket (Some ticket) = ticket

-- A call that tells the first ticket whose object is gone, and whether there is one.
abbrev pub IsToldGone : Option PacedState → Option PacedState → ℕ → ℕ → ℕ → Type 0
IsToldGone None new ticket is status =
    (new ≡ None) × (ticket ≡ 0) × (is ≡ 0) × (status ≡ 12)
IsToldGone (Some s) new ticket is status =
    (new ≡ Some (with_heap s (next_gone_step s.heap).0))
    × (ticket ≡ gone_ticket (next_gone_step s.heap).1)
    × (is ≡ bit_of (is_some (next_gone_step s.heap).1)) × (status ≡ 0)

-- how many tickets a heap has, free ones too
abbrev pub tickets_of : PacedState → ℕ
tickets_of s = length s.heap.watches.tickets

-- How room for so many tickets in all ends: with room; with none, since they are too many; or with
-- none, since memory was refused for more than there are.
abbrev pub MakesRoom : PacedState → PacedState → ℕ → ℕ → Type 0
MakesRoom old new tickets status =
    ((status ≡ 0) × (tickets ≤ 65536)
    × (new ≡ with_heap old (with_watch_room old.heap tickets)))
    ⊎ (((status ≡ 19) × (65536 < tickets) × (new ≡ old))
    ⊎ ((status ≡ 16) × (tickets_of old < tickets) × (tickets ≤ 65536) × (new ≡ old)))

-- A call that makes room for so many tickets more.
abbrev pub HasWatchRoom : Option PacedState → Option PacedState → ℕ → ℕ → Type 0
HasWatchRoom None new additional status = (new ≡ None) × (status ≡ 12)
HasWatchRoom (Some old) new additional status =
    (after : PacedState) × (new ≡ Some after)
    × MakesRoom old after (tickets_of old + additional) status
