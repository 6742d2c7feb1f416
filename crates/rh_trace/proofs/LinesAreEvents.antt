-- The requests of a trace are events of a heap.
use Rattle.std.proofs.Common.{◌≡◌, ℕ, List, [], ◌∷◌, ◌++◌, Option, Some, None, Result, Ok, Err, refl, sym, ap, ◌∙◌}
use Rattle.std.specs.List.{AllByRecursion}
use Rattle.rh_core.specs.declared.event.Event.{Event}
use Rattle.rh_core.specs.declared.event.Event.TheVariants as events
use Rattle.rh_core.specs.declared.outcomes.Dealt.{Dealt}
use Rattle.rh_layout.specs.declared.kind.Kind.{Kind}
use Rattle.rh_core.specs.declared.outcomes.Given.{Given}
use Rattle.rh_core.specs.declared.errors.DealError.{DealError}
use Rattle.rh_core.specs.declared.errors.GiveError.{GiveError}
use Rattle.rh_core.specs.Dealing.{deal_step}
use Rattle.rh_core.specs.Giving.{give_step}
use Rattle.rh_core.specs.Heap.{HeapState}
use Rattle.rh_core.specs.runs.Run.{event_step, answers_of, heap_after}
use Rattle.rh_engine.specs.declared.engine.DealRefusal.{DealRefusal}
use Rattle.rh_syntax.specs.declared.request.Request.{Request}
use Rattle.rh_syntax.specs.declared.request.Request.TheVariants as requests
use Rattle.rh_trace.specs.Answers as answered
use Rattle.rh_engine.specs.Engine.{EngineState, tray_refusal, counts_of_dealt, deal_done, deal_unless, given_or_refused, give_found}
use Rattle.rh_trace.specs.Events as told
use Rattle.rh_trace.specs.Events.{request_events, events_of, gives_of, ChangesByEvents, MayChangeTrays, TellsDealt, TellsGiven, TellsAnswer}
use Rattle.rh_trace.specs.Run.{request_step, engine_after}
use Rattle.rh_engine.specs.Trays.{Tray, Trays, tray_named, replica_of}
use Rattle.rh_engine.proofs.ResizeOrder.{resize-trays}
use Rattle.rh_engine.proofs.TicketOrder.{tickets-trays}

pub heap-of_deal : (heap : HeapState) (answer : Result Dealt DealError) (trays : Trays) (name : List ℕ) → (deal_done heap answer trays name).0.heap ≡ heap
heap-of_deal heap (Ok dealt) trays name = refl
heap-of_deal heap (Err why) trays name = refl

answer-of_deal : (heap : HeapState) (answer : Result Dealt DealError) (trays : Trays) (name : List ℕ) → TellsDealt answer (answered.Deal (deal_done heap answer trays name).1)
answer-of_deal heap (Ok dealt) trays name = (counts_of_dealt dealt, refl, refl, refl)
answer-of_deal heap (Err why) trays name = refl

answer-of_give : (answer : Result Given GiveError) → TellsGiven answer (answered.Give (given_or_refused answer))
answer-of_give (Ok given) = refl
answer-of_give (Err why) = refl

trays-of_give : (t : Option Tray) (e : EngineState) → (give_found t e).0.trays ≡ e.trays
trays-of_give None e = refl
trays-of_give (Some t) e = refl

-- a request leaves the trays, unless it is a deal or a join
pub trays-of_request : (e : EngineState) (request : Request) → (MayChangeTrays request → ⊥) → (request_step e request).0.trays ≡ e.trays
trays-of_request e (requests.Command owner command) other = refl
trays-of_request e requests.Begin other = refl
trays-of_request e (requests.Shade root) other = refl
trays-of_request e (requests.Deal kind most tray) other = absurd (other tt)
trays-of_request e (requests.Give tray) other = trays-of_give (tray_named e.trays tray) e
trays-of_request e (requests.Join into other_tray) other = absurd (other tt)
trays-of_request e requests.Flip other = refl
trays-of_request e requests.Recall other = refl
trays-of_request e requests.Abandon other = refl
trays-of_request e (requests.Idle words) other = refl
trays-of_request e (requests.Resize words) other = resize-trays e words
trays-of_request e (requests.Tickets tickets) other = tickets-trays e tickets
trays-of_request e (requests.Watch owner root) other = refl
trays-of_request e (requests.Unwatch ticket) other = refl
trays-of_request e requests.Gone other = refl
trays-of_request e requests.Trays other = refl
trays-of_request e requests.Stat other = refl
trays-of_request e requests.Dump other = refl

module _ (A : Type 0) where
  heap-of_deal_unless : (why : Option DealRefusal) (e : EngineState) (kind : Kind) (most : ℕ) (name : List ℕ) → (deal_unless why e kind most name).0.heap ≡ heap_after {A = A} e.heap (told.event_unless why (events.Deal kind most))
  heap-of_deal_unless (Some why) e kind most name = refl
  heap-of_deal_unless None e kind most name = heap-of_deal (deal_step e.heap kind most).0 (deal_step e.heap kind most).1 e.trays name

  heap-of_give : (t : Option Tray) (e : EngineState) → (give_found t e).0.heap ≡ heap_after {A = A} e.heap (gives_of t)
  heap-of_give None e = refl
  heap-of_give (Some t) e = refl

  heap-of_request : (e : EngineState) (request : Request) → ChangesByEvents request → (request_step e request).0.heap ≡ heap_after {A = A} e.heap (request_events e request)
  heap-of_request e (requests.Command owner command) leaves = refl
  heap-of_request e requests.Begin leaves = refl
  heap-of_request e (requests.Shade root) leaves = refl
  heap-of_request e (requests.Deal kind most tray) leaves = heap-of_deal_unless (tray_refusal e tray) e kind most tray
  heap-of_request e (requests.Give tray) leaves = heap-of_give (tray_named e.trays tray) e
  heap-of_request e (requests.Join into other) leaves = refl
  heap-of_request e requests.Flip leaves = refl
  heap-of_request e requests.Recall leaves = refl
  heap-of_request e requests.Abandon leaves = refl
  heap-of_request e (requests.Idle words) leaves = refl
  heap-of_request e (requests.Resize words) leaves = absurd leaves
  heap-of_request e (requests.Tickets tickets) leaves = absurd leaves
  heap-of_request e (requests.Watch owner root) leaves = absurd leaves
  heap-of_request e (requests.Unwatch ticket) leaves = absurd leaves
  heap-of_request e requests.Gone leaves = absurd leaves
  heap-of_request e requests.Trays leaves = refl
  heap-of_request e requests.Stat leaves = refl
  heap-of_request e requests.Dump leaves = refl

  heap_after-append : (h : HeapState) (one other : List (Event A)) → heap_after h (one ++ other) ≡ heap_after (heap_after h one) other
  heap_after-append h [] other = refl
  heap_after-append h (event ∷ one) other = heap_after-append (event_step h event).0 one other

  -- the heap after requests is the heap after their events
  pub heap-after_requests : (e : EngineState) (requests : List Request) → AllByRecursion ChangesByEvents requests → (engine_after e requests).heap ≡ heap_after {A = A} e.heap (events_of e requests)
  heap-after_requests e [] leave = refl
  heap-after_requests e (request ∷ others) leave =
      let next = (request_step e request).0 in
      heap-after_requests next others leave.1
      ∙ ap (λ h. heap_after {A = A} h (events_of next others)) (heap-of_request e request leave.0)
      ∙ sym (heap_after-append e.heap (request_events e request) (events_of next others))

  tells-deal : (why : Option DealRefusal) (e : EngineState) (kind : Kind) (most : ℕ) (name : List ℕ) → TellsAnswer (answers_of {A = A} e.heap (told.event_unless why (events.Deal kind most))) (answered.Deal (deal_unless why e kind most name).1)
  tells-deal (Some why) e kind most name = tt
  tells-deal None e kind most name = answer-of_deal (deal_step e.heap kind most).0 (deal_step e.heap kind most).1 e.trays name

  tells-give : (t : Option Tray) (e : EngineState) → TellsAnswer (answers_of {A = A} e.heap (gives_of t)) (answered.Give (give_found t e).1)
  tells-give None e = tt
  tells-give (Some t) e = answer-of_give (give_step e.heap (replica_of t)).1

  -- what is answered to a request is what the heap answers to its event
  pub answer-of_request : (e : EngineState) (request : Request) → TellsAnswer (answers_of {A = A} e.heap (request_events e request)) (request_step e request).1
  answer-of_request e (requests.Command owner command) = refl
  answer-of_request e requests.Begin = refl
  answer-of_request e (requests.Shade root) = refl
  answer-of_request e (requests.Deal kind most tray) = tells-deal (tray_refusal e tray) e kind most tray
  answer-of_request e (requests.Give tray) = tells-give (tray_named e.trays tray) e
  answer-of_request e (requests.Join into other) = tt
  answer-of_request e requests.Flip = refl
  answer-of_request e requests.Recall = refl
  answer-of_request e requests.Abandon = refl
  answer-of_request e (requests.Idle words) = refl
  answer-of_request e (requests.Resize words) = tt
  answer-of_request e (requests.Tickets tickets) = tt
  answer-of_request e (requests.Watch owner root) = tt
  answer-of_request e (requests.Unwatch ticket) = tt
  answer-of_request e requests.Gone = tt
  answer-of_request e requests.Trays = tt
  answer-of_request e requests.Stat = tt
  answer-of_request e requests.Dump = tt
