-- Tickets over an increment, a command and a collection: one whose object is reached goes on.
use Rattle.std.proofs.Common.{◌≡◌, ◌↔◌, ℕ, Bool, true, false, Option, Some, None, Result, Ok, Err, refl, sym, ap, subst, ◌∙◌}
use Rattle.std.specs.Prelude.{if◌then◌else◌}
use Rattle.std.proofs.lemmas.List.{length-map}
use Rattle.rh_layout.specs.declared.command.Command.{Command}
use Rattle.rh_layout.specs.declared.command.Command.TheVariants.{Alloc, Raw, Load, Store, Copy, Same, Drop}
use Rattle.rh_layout.specs.declared.command.Reply.{Reply}
use Rattle.rh_layout.specs.declared.refusal.Refusal.{Refusal}
use Rattle.rh_watches.specs.declared.watch.Watch.{Watch}
use Rattle.rh_watches.specs.declared.watch.Watch.TheVariants.{Free, On, Gone}
use Rattle.rh_watches.specs.Watches.{WatchTable, followed, on_or_gone, ticket_at, watch_after}
use Rattle.rh_watches.specs.lemmas.Following.{ticket_at-followed}
use Rattle.rh_model.specs.Graph.{Graph}
use Rattle.rh_model.specs.SameGraph.{IsPairing}
use Rattle.rh_mutator.specs.Mutator.{graph_of}
use Rattle.rh_core.specs.declared.event.Event.{Event}
use Rattle.rh_core.specs.declared.event.Event.TheVariants as events
use Rattle.rh_core.specs.declared.outcomes.Flipped.{Flipped}
use Rattle.rh_core.specs.Heap.{HeapState, IsWellFormed}
use Rattle.rh_core.specs.Commands.{heap_step}
use Rattle.rh_core.specs.Cycle.{flip_step}
use Rattle.rh_core.specs.Idle.{idle_step}
use Rattle.rh_core.proofs.WatchingLaws.{event-watches, flip-watches}
use Rattle.rh_pace.specs.Collecting.{before_collection, collect_step, collect_unless, did_collect}
use Rattle.rh_pace.specs.Increment.{after_increment, before_flip}
use Rattle.rh_pace.specs.KeptUp.{IsPaced}
use Rattle.rh_pace.specs.Paced.{PacedState, after_accepted, after_answer, paced_step, with_command, with_increment, with_store_paid}
use Rattle.rh_pace.proofs.Watched.{Stays, Stays-before_collection, Stays-before_flip}
use Rattle.rh_pace.proofs.kept_up.Laws.{StepLaws}
use Rattle.rh_pace.proofs.kept_up.Commands.{IsKeptUp-heap_step}
use Rattle.rh_pace.proofs.kept_up.Rounds.{IsGoing}
use Rattle.rh_pace.proofs.kept_up.Increments.{FlipCase, flip_cases, flip_done, flip_refused}
use Rattle.rh_pace.proofs.kept_up.PacedSteps.{IdleCase, idle_cases, idle_done, idle_refused}
use Rattle.rh_pace.proofs.kept_up.Collections.{IsGoing-before_collection, IsGoing-before_flip, IsGoing-idle_step}
use Rattle.rh_pace.proofs.kept_up.Reaches.{reached_paired}
use Rattle.rh_pace.proofs.kept_up.Insisting.{FlipsPair}
use Rattle.uses.specs.Files.{TicketsFollow}

TicketsFollow-itself : (g : Graph) (t : WatchTable) → TicketsFollow g t t
TicketsFollow-itself g t = record { room = refl; reached = λ ticket a on reached. (a, on); free = λ ticket. (λ is. is, λ is. is); gone = λ ticket is. is }

-- what changes neither tickets nor the graph may come before
TicketsFollow-stays : (h k : HeapState) (new : WatchTable) → Stays h k → TicketsFollow (graph_of k.mutators) k.watches new → TicketsFollow (graph_of h.mutators) h.watches new
TicketsFollow-stays h k new stays follow =
    subst (λ (g : Graph). TicketsFollow g h.watches new) stays.graph
    (subst (λ (t : WatchTable). TicketsFollow (graph_of k.mutators) t new) stays.watches follow)

-- A flip.

free-after : (forward : ℕ → Option ℕ) (w : Watch) → (watch_after forward w ≡ Free) ↔ (w ≡ Free)
free-after forward Free = (λ is. is, λ is. is)
free-after forward Gone = (λ is. is, λ is. is)
free-after forward (On a) = (by (forward a), λ (is : On a ≡ Free). cc)
  where
    by : (o : Option ℕ) → on_or_gone o ≡ Free → On a ≡ Free
    by (Some to) is = cc
    by None is = cc

-- by the addresses that pair two graphs
TicketsFollow-paired : (g after : Graph) (forward : ℕ → Option ℕ) (t : WatchTable) → IsPairing g after forward → TicketsFollow g t (followed forward t)
TicketsFollow-paired g after forward t pairing =
    let later : (ticket : ℕ) → ticket_at (followed forward t) ticket ≡ watch_after forward (ticket_at t ticket) = ticket_at-followed forward t in
    record {
      room = length-map t.tickets (watch_after forward);
      reached = λ ticket a on reached.
          let it = reached_paired g after forward pairing a reached in
          (it.name, later ticket ∙ ap (watch_after forward) on ∙ ap on_or_gone it.paired);
      free = λ ticket. (
        λ is. (free-after forward (ticket_at t ticket)).0 (sym (later ticket) ∙ is),
        λ is. later ticket ∙ (free-after forward (ticket_at t ticket)).1 is,
      );
      gone = λ ticket is. later ticket ∙ ap (watch_after forward) is;
    }

module _ (pairs : FlipsPair) (h : HeapState) (well : IsWellFormed h) where
  TicketsFollow-flip_step : TicketsFollow (graph_of h.mutators) h.watches (flip_step h).0.watches
  TicketsFollow-flip_step = by (flip_cases h)
    where
      by : FlipCase h → TicketsFollow (graph_of h.mutators) h.watches (flip_step h).0.watches
      by (flip_refused why is) =
          subst (λ (t : WatchTable). TicketsFollow (graph_of h.mutators) h.watches t) (sym (ap (λ r. r.0.watches) is)) (TicketsFollow-itself (graph_of h.mutators) h.watches)
      by (flip_done flipped is) =
          let told : (flip_step h).1 ≡ Ok flipped = ap (λ r. r.1) is in
          subst (λ (t : WatchTable). TicketsFollow (graph_of h.mutators) h.watches t) (sym (flip-watches h flipped told))
          (TicketsFollow-paired (graph_of h.mutators) (graph_of (flip_step h).0.mutators) _ h.watches (pairs h flipped well told))

-- An increment.

Stays-idle_step : (h : HeapState) (words : ℕ) → Stays h (idle_step h words).0
Stays-idle_step h words = by (idle_cases h words)
  where
    by : IdleCase h words → Stays h (idle_step h words).0
    by (idle_refused is why) = subst (Stays h) (sym is) (record { watches = refl; graph = refl })
    by (idle_done on is) = subst (Stays h) (sym is) (record { watches = refl; graph = refl })

module _ (laws : StepLaws) (pairs : FlipsPair) where
  TicketsFollow-after_increment : (mark : ℕ) (h : HeapState) → IsGoing h → TicketsFollow (graph_of h.mutators) h.watches (after_increment mark h).watches
  unfolding after_increment
  TicketsFollow-after_increment mark h going =
      let last = before_flip mark h in
      TicketsFollow-stays h last (flip_step last).0.watches (Stays-before_flip laws mark h) (TicketsFollow-flip_step pairs last (IsGoing-before_flip laws mark h going).well)

  -- What follows a command.

  TicketsFollow-store_paid : (k : PacedState) (b : Bool) → IsGoing k.heap
      → TicketsFollow (graph_of k.heap.mutators) k.heap.watches (if b then with_increment (with_store_paid k) else k).heap.watches
  TicketsFollow-store_paid k false going = TicketsFollow-itself (graph_of k.heap.mutators) k.heap.watches
  TicketsFollow-store_paid k true going =
      let paid = (with_store_paid k).heap in
      TicketsFollow-stays k.heap paid (with_increment (with_store_paid k)).heap.watches (Stays-idle_step k.heap k.pace.store_units)
      (TicketsFollow-after_increment k.pace.mark paid (IsGoing-idle_step laws k.heap k.pace.store_units going))

  TicketsFollow-accepted : (k : PacedState) (command : Command) → IsGoing k.heap → TicketsFollow (graph_of k.heap.mutators) k.heap.watches (after_accepted command k).heap.watches
  TicketsFollow-accepted k (Alloc dst fields) going = TicketsFollow-after_increment k.pace.mark k.heap going
  TicketsFollow-accepted k (Raw dst fields) going = TicketsFollow-after_increment k.pace.mark k.heap going
  TicketsFollow-accepted k (Store obj field operand) going = TicketsFollow-store_paid k k.heap.mutators.cycle going
  TicketsFollow-accepted k (Load dst src field) going = TicketsFollow-itself (graph_of k.heap.mutators) k.heap.watches
  TicketsFollow-accepted k (Copy dst src) going = TicketsFollow-itself (graph_of k.heap.mutators) k.heap.watches
  TicketsFollow-accepted k (Same a b) going = TicketsFollow-itself (graph_of k.heap.mutators) k.heap.watches
  TicketsFollow-accepted k (Drop root) going = TicketsFollow-itself (graph_of k.heap.mutators) k.heap.watches

  TicketsFollow-answer : (k : PacedState) (answer : Result Reply Refusal) (command : Command) → IsGoing k.heap
      → TicketsFollow (graph_of k.heap.mutators) k.heap.watches (after_answer answer command k).heap.watches
  TicketsFollow-answer k (Ok reply) command going = TicketsFollow-accepted k command going
  TicketsFollow-answer k (Err why) command going = TicketsFollow-itself (graph_of k.heap.mutators) k.heap.watches

  module _ (s : PacedState) (well : IsWellFormed s.heap) (paced : IsPaced s) where
    pub TicketsFollow-paced_step : (A : Type 0) (owner : ℕ) (command : Command)
        → TicketsFollow (graph_of (heap_step s.heap owner command).0.mutators) s.heap.watches (paced_step s owner command).0.heap.watches
    unfolding paced_step
    TicketsFollow-paced_step A owner command =
        let k = with_command s owner command in
        let event : Event A = events.Command owner command in
        let going : IsGoing k.heap = record { well = laws.command s.heap well owner command; kept = IsKeptUp-heap_step s.heap owner command well paced.kept_up } in
        subst (λ (t : WatchTable). TicketsFollow (graph_of k.heap.mutators) t (after_answer (heap_step s.heap owner command).1 command k).heap.watches)
        (event-watches s.heap event (λ same. cc))
        (TicketsFollow-answer k (heap_step s.heap owner command).1 command going)

    -- A collection.
    pub TicketsFollow-collect_step : TicketsFollow (graph_of s.heap.mutators) s.heap.watches (collect_step s).0.heap.watches
    unfolding collect_step
    TicketsFollow-collect_step = by (did_collect s).flipped
      where
        by : (flipped : Option Flipped) → TicketsFollow (graph_of s.heap.mutators) s.heap.watches (collect_unless flipped s).0.heap.watches
        by None = TicketsFollow-itself (graph_of s.heap.mutators) s.heap.watches
        by (Some flipped) =
            let before = before_collection s.heap in
            let going : IsGoing s.heap = record { well = well; kept = paced.kept_up } in
            TicketsFollow-stays s.heap before (after_increment s.pace.mark before).watches (Stays-before_collection laws s.heap)
            (TicketsFollow-after_increment s.pace.mark before (IsGoing-before_collection laws s.heap going))
