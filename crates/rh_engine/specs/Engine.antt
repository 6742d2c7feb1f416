-- What the lines of a trace make of a heap and the trays, and what they are answered.
use Rattle.std.specs.Prelude.{◌≡◌, ◌≢◌, ℕ, ◌<◌, ◌≤◌, ◌⊎◌, ◌==◌, nat_lt, ◌||◌, not, Bool, false, if◌then◌else◌, List, [], ◌∷◌, length, slice_set, Option, Some, None, Result, Ok, Err}
use Rattle.rh_layout.specs.Refusing.{unless}
use Rattle.rh_layout.specs.declared.command.Command.{Command}
use Rattle.rh_layout.specs.declared.command.Reply.{Reply}
use Rattle.rh_layout.specs.declared.command.RootId.{RootId}
use Rattle.rh_layout.specs.declared.refusal.Refusal.{Refusal}
use Rattle.rh_core.specs.declared.outcomes.Dealt.{Dealt}
use Rattle.rh_core.specs.declared.outcomes.Flipped.{Flipped}
use Rattle.rh_core.specs.declared.outcomes.Given.{Given}
use Rattle.rh_layout.specs.declared.kind.Kind.{Kind}
use Rattle.rh_core.specs.declared.outcomes.Shaded.{Shaded}
use Rattle.rh_core.specs.declared.errors.BeginError.{BeginError}
use Rattle.rh_core.specs.declared.errors.DealError.{DealError}
use Rattle.rh_core.specs.declared.errors.DealError.TheVariants as deal_errors
use Rattle.rh_core.specs.declared.errors.FlipError.{FlipError}
use Rattle.rh_core.specs.declared.errors.GiveError.{GiveError}
use Rattle.rh_core.specs.declared.errors.IdleError.{IdleError}
use Rattle.rh_core.specs.declared.errors.NoCycle.{NoCycle}
use Rattle.rh_core.specs.declared.errors.RecallError.{RecallError}
use Rattle.rh_core.specs.declared.errors.ShadeError.{ShadeError}
use Rattle.rh_core.specs.declared.errors.WatchError.{WatchError}
use Rattle.rh_text.specs.Stages.{◌when◌, ◌▸◌, no_fault}
use Rattle.rh_core.specs.Heap.{HeapState}
use Rattle.rh_core.specs.Commands.{heap_step}
use Rattle.rh_core.specs.Cycle.{begin_step, flip_step}
use Rattle.rh_core.specs.Recall.{recall_step, abandon_step}
use Rattle.rh_core.specs.Idle.{idle_step}
use Rattle.rh_core.specs.Resize.{with_sizes}
use Rattle.rh_core.specs.Shading.{shade_step}
use Rattle.rh_core.specs.Stat.{stat_of}
use Rattle.rh_core.specs.Dealing.{deal_step}
use Rattle.rh_core.specs.Giving.{give_step}
use Rattle.rh_core.specs.Watching.{unwatch_step, watch_step, with_watch_room, with_watches}
use Rattle.rh_watches.specs.declared.watch.Watch.{Watch}
use Rattle.rh_watches.specs.declared.watch.Watch.TheVariants.{Free}
use Rattle.rh_watches.specs.Watches.{WatchTable}
use Rattle.rh_engine.specs.declared.engine.TrayDeal.{TrayDeal}
use Rattle.rh_engine.specs.declared.engine.DealRefusal.{DealRefusal}
use Rattle.rh_engine.specs.declared.engine.DealRefusal.TheVariants as deal_refusals
use Rattle.rh_engine.specs.declared.engine.GiveRefusal.{GiveRefusal}
use Rattle.rh_engine.specs.declared.engine.GiveRefusal.TheVariants as give_refusals
use Rattle.rh_engine.specs.declared.engine.ResizeRefusal.{ResizeRefusal}
use Rattle.rh_engine.specs.declared.engine.ResizeRefusal.TheVariants as resize_refusals
use Rattle.rh_engine.specs.declared.engine.TicketsRefusal.{TicketsRefusal}
use Rattle.rh_engine.specs.declared.engine.TicketsRefusal.TheVariants as tickets_refusals
use Rattle.rh_engine.specs.declared.trays.JoinRefusal.{JoinRefusal}
use Rattle.rh_engine.specs.declared.trays.JoinRefusal.TheVariants as join_refusals
use Rattle.rh_engine.specs.Trays.{Trays, Tray, tray_named, trays_with, tray_with, tray_or_empty, replica_of, is_beyond, join_step, IsFoldedInto}

-- what the lines of a trace work on: the heap, and the trays
pub record EngineState : Type 0 where
  pub heap : HeapState
  pub trays : Trays

-- an owner's command
abbrev pub command_step : EngineState → ℕ → Command → EngineState × Result Reply Refusal
command_step e owner command = (
  record e { heap = (heap_step e.heap owner command).0 },
  (heap_step e.heap owner command).1,
)

-- a cycle begins
abbrev pub begin_line_step : EngineState → EngineState × Result ℕ BeginError
begin_line_step e = (record e { heap = (begin_step e.heap).0 }, (begin_step e.heap).1)

-- what a root refers to is placed
abbrev pub shade_line_step : EngineState → RootId → EngineState × Result Shaded ShadeError
shade_line_step e root =
    (record e { heap = (shade_step e.heap root).0 }, (shade_step e.heap root).1)

-- the roots are moved to the replica
abbrev pub flip_line_step : EngineState → EngineState × Result Flipped FlipError
flip_line_step e = (record e { heap = (flip_step e.heap).0 }, (flip_step e.heap).1)

-- what was dealt is undealt
abbrev pub recall_line_step : EngineState → EngineState × Result ℕ RecallError
recall_line_step e = (record e { heap = (recall_step e.heap).0 }, (recall_step e.heap).1)

-- the cycle ends without a flip
abbrev pub abandon_line_step : EngineState → EngineState × Result ℕ NoCycle
abandon_line_step e = (record e { heap = (abandon_step e.heap).0 }, (abandon_step e.heap).1)

-- the collector has so many idle words more
abbrev pub idle_line_step : EngineState → ℕ → EngineState × Result ℕ IdleError
idle_line_step e words =
    (record e { heap = (idle_step e.heap words).0 }, (idle_step e.heap words).1)

-- Resize.

-- why the spaces don't get so many words
abbrev pub resize_line_refusal : EngineState → ℕ → Option ResizeRefusal
resize_line_refusal e words =
    let used = (stat_of e.heap).used in
    if nat_lt words 8 || nat_lt 16777216 words then Some resize_refusals.BadSpace
    else if nat_lt words used then Some (resize_refusals.Used used)
    else None

-- both spaces have so many words, and the log keeps its limit
abbrev pub with_space : EngineState → ℕ → EngineState
with_space e words =
    record e { heap = with_sizes e.heap words e.heap.mutators.config.log_limit }

-- the engine and the answer, unless it is refused
abbrev pub resize_unless : Option ResizeRefusal → EngineState → ℕ
    → EngineState × Result ℕ ResizeRefusal
resize_unless refusal e words = unless refusal e (with_space e words, Ok words)

-- Both spaces have so many words.
abbrev pub resize_line_step : EngineState → ℕ → EngineState × Result ℕ ResizeRefusal
resize_line_step e words = resize_unless (resize_line_refusal e words) e words

-- Watches.

-- why there isn't room for so many tickets
abbrev pub tickets_line_refusal : EngineState → ℕ → Option TicketsRefusal
tickets_line_refusal e tickets =
    let now = length e.heap.watches.tickets in
    if nat_lt tickets now then Some (tickets_refusals.Fewer now)
    else if nat_lt 65536 tickets then Some tickets_refusals.TooMany
    else None

-- the engine and the answer, unless it is refused
abbrev pub tickets_unless : Option TicketsRefusal → EngineState → ℕ
    → EngineState × Result ℕ TicketsRefusal
tickets_unless refusal e tickets =
    unless refusal e (record e { heap = with_watch_room e.heap tickets }, Ok tickets)

-- There is room for so many tickets in all.
abbrev pub tickets_line_step : EngineState → ℕ → EngineState × Result ℕ TicketsRefusal
tickets_line_step e tickets = tickets_unless (tickets_line_refusal e tickets) e tickets

-- a ticket watches the object that a root holds
abbrev pub watch_line_step : EngineState → ℕ → RootId → EngineState × Result ℕ WatchError
watch_line_step e owner root =
    (record e { heap = (watch_step e.heap owner root).0 }, (watch_step e.heap owner root).1)

-- a ticket watches no object
abbrev pub unwatch_line_step : EngineState → ℕ → EngineState × Bool
unwatch_line_step e ticket =
    (record e { heap = (unwatch_step e.heap ticket).0 }, (unwatch_step e.heap ticket).1)

-- what tickets are once these are free
abbrev pub freed : List Watch → List ℕ → List Watch
freed ws [] = ws
freed ws (ticket ∷ tickets) = freed (slice_set ws ticket Free) tickets

-- the table whose tickets to be told were told, and are free
abbrev pub table_told : WatchTable → WatchTable
table_told t = record { tickets = freed t.tickets t.gone; gone = [] }

-- All tickets to be told are told, in their order.
abbrev pub gone_line_step : EngineState → EngineState × List ℕ
gone_line_step e =
    (record e { heap = with_watches e.heap (table_told e.heap.watches) }, e.heap.watches.gone)

-- Deal.

-- why a deal into a tray of this name is refused before the heap is asked to deal
abbrev pub tray_refusal : EngineState → List ℕ → Option DealRefusal
tray_refusal e name =
    if not e.heap.mutators.cycle then Some (deal_refusals.Heap deal_errors.NoCycle)
    else if is_beyond e.trays name then Some deal_refusals.TooManyTrays
    else if not ((tray_or_empty e.trays name e.heap.epoch).epoch == e.heap.epoch)
    then Some deal_refusals.OtherEpoch
    else None

-- the trays once a piece was folded into the one of this name, which is made where it isn't there
abbrev pub with_dealt : Trays → List ℕ → Dealt → Trays
with_dealt trays name dealt =
    trays_with trays name
    (tray_with (tray_or_empty trays name dealt.piece.epoch) dealt.piece.items)

-- how many items a piece has, and how many entries were passed over
abbrev pub counts_of_dealt : Dealt → TrayDeal
counts_of_dealt dealt = record { items = length dealt.piece.items; passed = dealt.passed }

-- the engine and the answer, once the heap was asked to deal
abbrev pub deal_done : HeapState → Result Dealt DealError → Trays → List ℕ
    → EngineState × Result TrayDeal DealRefusal
deal_done heap (Ok dealt) trays name =
    (record { heap = heap; trays = with_dealt trays name dealt }, Ok (counts_of_dealt dealt))
deal_done heap (Err why) trays name =
    (record { heap = heap; trays = trays }, Err (deal_refusals.Heap why))

-- the same, unless it was refused before
abbrev pub deal_unless : Option DealRefusal → EngineState → Kind → ℕ → List ℕ
    → EngineState × Result TrayDeal DealRefusal
deal_unless refusal e kind most name = unless refusal e
    (deal_done (deal_step e.heap kind most).0 (deal_step e.heap kind most).1 e.trays name)

-- A piece is dealt, and folded into a tray.
abbrev pub deal_line_step : EngineState → Kind → ℕ → List ℕ
    → EngineState × Result TrayDeal DealRefusal
deal_line_step e kind most name = deal_unless (tray_refusal e name) e kind most name

-- Give.

-- what the heap answers to a replica that it is given, as an answer to the line
abbrev pub given_or_refused : Result Given GiveError → Result Given GiveRefusal
given_or_refused (Ok given) = Ok given
given_or_refused (Err why) = Err (give_refusals.Heap why)

-- the engine and the answer, where there may be no such tray
abbrev pub give_found : Option Tray → EngineState → EngineState × Result Given GiveRefusal
give_found None e = (e, Err give_refusals.NoTray)
give_found (Some t) e = (
  record e { heap = (give_step e.heap (replica_of t)).0 },
  given_or_refused (give_step e.heap (replica_of t)).1,
)

-- The replica in a tray is given to the heap, and stays in the tray.
abbrev pub give_line_step : EngineState → List ℕ → EngineState × Result Given GiveRefusal
give_line_step e name = give_found (tray_named e.trays name) e

-- Join.

-- The second tray is joined into the first.
abbrev pub join_line_step : EngineState → List ℕ → List ℕ → EngineState × Result ℕ JoinRefusal
join_line_step e into other =
    (record e { trays = (join_step e.trays into other).0 }, (join_step e.trays into other).1)

-- Laws.

-- there is no tray of this name, and there are 64 others
abbrev pub IsOneTooMany : EngineState → List ℕ → Type 0
IsOneTooMany e name = (tray_named e.trays name ≡ None) × (64 ≤ length e.trays)

-- there is a tray of this name, of another epoch than the heap's
abbrev pub IsOfOtherEpoch : EngineState → List ℕ → Type 0
IsOfOtherEpoch e name =
    (t : Tray) × (tray_named e.trays name ≡ Some t) × (t.epoch ≢ e.heap.epoch)

-- the heap refuses to deal
abbrev pub IsHeapRefusal : EngineState → Kind → ℕ → DealRefusal → Type 0
IsHeapRefusal e kind most why =
    (error : DealError) × (why ≡ deal_refusals.Heap error)
    × ((deal_step e.heap kind most).1 ≡ Err error)

-- the refusals of a deal into a tray, in their order, each with when it holds
abbrev pub refusals_of_deal : EngineState → Kind → ℕ → List ℕ → ℕ → DealRefusal → Type 0
refusals_of_deal e kind most name =
    (deal_refusals.Heap deal_errors.NoCycle when (e.heap.mutators.cycle ≡ false))
    ▸ (deal_refusals.TooManyTrays when IsOneTooMany e name)
    ▸ (deal_refusals.OtherEpoch when IsOfOtherEpoch e name)
    ▸ IsHeapRefusal e kind most
    ▸ no_fault

-- the refusals of a join, in their order, each with when it holds
abbrev pub refusals_of_join : EngineState → List ℕ → List ℕ → ℕ → JoinRefusal → Type 0
refusals_of_join e into other =
    (join_refusals.NoTray when (tray_named e.trays other ≡ None))
    ▸ (join_refusals.TooManyTrays when IsOneTooMany e into)
    ▸ no_fault

-- the heap refuses the replica in the tray
abbrev pub IsGiveRefusal : EngineState → List ℕ → GiveRefusal → Type 0
IsGiveRefusal e name why =
    (t : Tray) × (error : GiveError) × (tray_named e.trays name ≡ Some t)
    × (why ≡ give_refusals.Heap error) × ((give_step e.heap (replica_of t)).1 ≡ Err error)

-- the refusals of a give of a tray, in their order, each with when it holds
abbrev pub refusals_of_give : EngineState → List ℕ → ℕ → GiveRefusal → Type 0
refusals_of_give e name =
    (give_refusals.NoTray when (tray_named e.trays name ≡ None))
    ▸ IsGiveRefusal e name
    ▸ no_fault

-- the refusals of a resize, in their order, each with when it holds
abbrev pub refusals_of_resize : EngineState → ℕ → ℕ → ResizeRefusal → Type 0
refusals_of_resize e words =
    let used = (stat_of e.heap).used in
    (resize_refusals.BadSpace when ((words < 8) ⊎ (16777216 < words)))
    ▸ (resize_refusals.Used used when (words < used))
    ▸ no_fault

-- the refusals of room for tickets, in their order, each with when it holds
abbrev pub refusals_of_tickets : EngineState → ℕ → ℕ → TicketsRefusal → Type 0
refusals_of_tickets e tickets =
    let now = length e.heap.watches.tickets in
    (tickets_refusals.Fewer now when (tickets < now))
    ▸ (tickets_refusals.TooMany when (65536 < tickets))
    ▸ no_fault

-- The heap dealt a piece, which was folded into the tray of this name. Its items, and the entries
-- that were passed over, are counted.
pub record IsDealtInto (before after : EngineState) (kind : Kind) (most : ℕ) (name : List ℕ)
    (done : TrayDeal) : Type 0 where
  pub dealt : Dealt
  pub step : deal_step before.heap kind most ≡ (after.heap, Ok dealt)
  pub folded : IsFoldedInto before.trays after.trays name dealt.piece
  pub items : done.items ≡ length dealt.piece.items
  pub passed : done.passed ≡ dealt.passed
