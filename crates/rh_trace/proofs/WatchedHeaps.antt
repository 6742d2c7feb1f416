-- Lines of watches change the tickets of a heap alone: it stays well formed, and goes on to stand for what it stands for.
use Rattle.std.proofs.Common.{◌≡◌, List, refl, sym, subst}
use Rattle.rh_layout.specs.declared.item.Item.{Item}
use Rattle.rh_model.specs.Plain.{PlainHeap}
use Rattle.rh_watches.specs.Watches.{WatchTable, with_room}
use Rattle.rh_core.specs.Heap.{HeapState, IsWellFormed}
use Rattle.rh_core.specs.Mutator.{StandsFor}
use Rattle.rh_core.specs.Watching.{unwatch_step, watch_step, with_watches}
use Rattle.rh_core.specs.runs.Stores.{IsStoreList}
use Rattle.rh_core.proofs.WatchingLaws.{watch-leaves, unwatch-leaves, IsWellFormed-watches, IsStoreList-watches}
use Rattle.rh_syntax.specs.declared.request.Request.{Request}
use Rattle.rh_syntax.specs.declared.request.Request.TheVariants as requests
use Rattle.rh_engine.specs.Engine.{EngineState, table_told}
use Rattle.rh_engine.proofs.TicketOrder.{tickets-either}
use Rattle.rh_trace.specs.Events.{IsOfWatches}
use Rattle.rh_trace.specs.Run.{request_step}

-- a heap whose tickets alone are others
abbrev pub IsWatchedAs : HeapState → HeapState → Type 0
IsWatchedAs h new = (t : WatchTable) × (new ≡ with_watches h t)

-- a line of watches changes the tickets alone
pub tickets-alone : (e : EngineState) (request : Request) → IsOfWatches request → IsWatchedAs e.heap (request_step e request).0.heap
tickets-alone e (requests.Tickets tickets) is = tickets-either e tickets (λ x. IsWatchedAs e.heap x.heap) (e.heap.watches, refl) (with_room tickets e.heap.watches, refl)
tickets-alone e (requests.Watch owner root) is = ((watch_step e.heap owner root).0.watches, watch-leaves e.heap owner root)
tickets-alone e (requests.Unwatch ticket) is = ((unwatch_step e.heap ticket).0.watches, unwatch-leaves e.heap ticket)
tickets-alone e requests.Gone is = (table_told e.heap.watches, refl)
tickets-alone e (requests.Command owner command) is = absurd is
tickets-alone e requests.Begin is = absurd is
tickets-alone e (requests.Shade root) is = absurd is
tickets-alone e (requests.Deal kind most tray) is = absurd is
tickets-alone e (requests.Give tray) is = absurd is
tickets-alone e (requests.Join into other) is = absurd is
tickets-alone e requests.Flip is = absurd is
tickets-alone e requests.Recall is = absurd is
tickets-alone e requests.Abandon is = absurd is
tickets-alone e (requests.Idle words) is = absurd is
tickets-alone e (requests.Resize words) is = absurd is
tickets-alone e requests.Trays is = absurd is
tickets-alone e requests.Stat is = absurd is
tickets-alone e requests.Dump is = absurd is

module _ (e : EngineState) (request : Request) (is : IsOfWatches request) where
  pub watched-well_formed : IsWellFormed e.heap → IsWellFormed (request_step e request).0.heap
  watched-well_formed fine =
      let alone = tickets-alone e request is in
      subst IsWellFormed (sym alone.1) (IsWellFormed-watches e.heap alone.0 fine)

  pub watched-stands : (p : PlainHeap) → StandsFor e.heap.mutators p → StandsFor (request_step e request).0.heap.mutators p
  watched-stands p stands =
      let alone = tickets-alone e request is in
      subst (λ (h : HeapState). StandsFor h.mutators p) (sym alone.1) stands

  pub watched-stores : (stores : List Item) → IsStoreList e.heap stores → IsStoreList (request_step e request).0.heap stores
  watched-stores stores are =
      let alone = tickets-alone e request is in
      subst (λ (h : HeapState). IsStoreList h stores) (sym alone.1) ((IsStoreList-watches e.heap alone.0 stores).0 are)
