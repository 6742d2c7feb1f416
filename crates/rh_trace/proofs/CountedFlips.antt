-- A heap counts its flips and root words as a summary adds them up.
use Rattle.std.proofs.Common.{◌≡◌, ℕ, ◌+◌, cond, List, [], ◌∷◌, Option, Some, None, Result, Ok, Err, refl, sym, subst, ap, arith}
use Rattle.std.specs.Prelude.{is_some, count_by}
use Rattle.std.specs.Result.{result_ok}
use Rattle.rh_layout.specs.declared.command.Command.{Command}
use Rattle.rh_layout.specs.declared.command.RootId.{RootId}
use Rattle.rh_partial.specs.PartialReplica.{ReplicaState}
use Rattle.rh_core.specs.declared.outcomes.Dealt.{Dealt}
use Rattle.rh_core.specs.declared.outcomes.Flipped.{Flipped}
use Rattle.rh_layout.specs.declared.kind.Kind.{Kind}
use Rattle.rh_core.specs.declared.errors.DealError.{DealError}
use Rattle.rh_core.specs.declared.errors.FlipError.{FlipError}
use Rattle.rh_core.specs.Commands.{heap_step}
use Rattle.rh_core.specs.Cycle.{begin_step, flip_step}
use Rattle.rh_core.specs.Recall.{recall_step, abandon_step}
use Rattle.rh_core.specs.Idle.{idle_step}
use Rattle.rh_core.specs.Dealing.{deal_step}
use Rattle.rh_core.specs.Giving.{give_step}
use Rattle.rh_core.specs.Heap.{HeapState}
use Rattle.rh_core.specs.Shading.{shade_step}
use Rattle.rh_engine.specs.declared.engine.DealRefusal.{DealRefusal}
use Rattle.rh_syntax.specs.declared.request.Request.{Request}
use Rattle.rh_syntax.specs.declared.request.Request.TheVariants as requests
use Rattle.rh_trace.specs.Answers.{is_flip, flip_of, words_of, root_words_of}
use Rattle.rh_engine.specs.Engine.{EngineState, deal_unless, deal_done, tray_refusal, give_found, resize_line_step}
use Rattle.rh_trace.specs.Events.{IsOfWatches}
use Rattle.rh_trace.specs.Run.{request_step, answers_to, engine_after}
use Rattle.rh_engine.specs.Trays.{Trays, Tray, tray_named, replica_of}
use Rattle.rh_engine.proofs.ResizeOrder.{resize-either}
use Rattle.rh_trace.proofs.WatchedHeaps.{tickets-alone}
use Rattle.rh_trace.proofs.CountsByHead.{count_by-head}

-- the counts stay
abbrev pub CountsStay : HeapState → HeapState → Type 0
CountsStay a b = (b.flips ≡ a.flips) × (b.root_words ≡ a.root_words)

-- a flip, if it was done, is counted, and so are the words that it wrote
abbrev pub IsCounted : HeapState → HeapState → Option Flipped → Type 0
IsCounted a b done = (b.flips ≡ a.flips + cond (is_some done) 1 0) × (b.root_words ≡ a.root_words + words_of done)

counted-none : (a b : HeapState) → CountsStay a b → IsCounted a b None
counted-none a b stay = (omega (arith, stay.0), omega (arith, stay.1))

counted-flip : (a b : HeapState) (answer : Result Flipped FlipError) → ((f : Flipped) → answer ≡ Ok f → (b.flips ≡ a.flips + 1) × (b.root_words ≡ a.root_words + f.roots)) → ((why : FlipError) → answer ≡ Err why → b ≡ a) → IsCounted a b (result_ok answer)
counted-flip a b (Ok f) done refused = done f refl
counted-flip a b (Err why) done refused =
    let same = refused why refl in
    counted-none a b (ap (λ (h : HeapState). h.flips) same, ap (λ (h : HeapState). h.root_words) same)

counts-deal_done : (a h : HeapState) (dealt : Result Dealt DealError) (trays : Trays) (name : List ℕ) → CountsStay a h → CountsStay a (deal_done h dealt trays name).0.heap
counts-deal_done a h (Ok dealt) trays name stay = stay
counts-deal_done a h (Err why) trays name stay = stay

-- what the heap's own steps keep and count
pub record HeapCounts : Type 0 where
  pub command : (h : HeapState) (owner : ℕ) (command : Command) → CountsStay h (heap_step h owner command).0
  pub begin : (h : HeapState) → CountsStay h (begin_step h).0
  pub shade : (h : HeapState) (root : RootId) → CountsStay h (shade_step h root).0
  pub deal : (h : HeapState) (kind : Kind) (most : ℕ) → CountsStay h (deal_step h kind most).0
  pub give : (h : HeapState) (r : ReplicaState) → CountsStay h (give_step h r).0
  pub recall : (h : HeapState) → CountsStay h (recall_step h).0
  pub abandon : (h : HeapState) → CountsStay h (abandon_step h).0
  pub idle : (h : HeapState) (words : ℕ) → CountsStay h (idle_step h words).0
  pub flip : (h : HeapState) → IsCounted h (flip_step h).0 (result_ok (flip_step h).1)

pub flip_counts : (h : HeapState) → ((f : Flipped) → (flip_step h).1 ≡ Ok f → ((flip_step h).0.flips ≡ h.flips + 1) × ((flip_step h).0.root_words ≡ h.root_words + f.roots)) → ((why : FlipError) → (flip_step h).1 ≡ Err why → (flip_step h).0 ≡ h) → IsCounted h (flip_step h).0 (result_ok (flip_step h).1)
flip_counts h done refused = counted-flip h (flip_step h).0 (flip_step h).1 done refused

deal-counts : HeapCounts → (refusal : Option DealRefusal) (e : EngineState) (kind : Kind) (most : ℕ) (name : List ℕ) → CountsStay e.heap (deal_unless refusal e kind most name).0.heap
deal-counts counts (Some why) e kind most name = (refl, refl)
deal-counts counts None e kind most name = counts-deal_done e.heap (deal_step e.heap kind most).0 (deal_step e.heap kind most).1 e.trays name (counts.deal e.heap kind most)

give-counts : HeapCounts → (found : Option Tray) (e : EngineState) → CountsStay e.heap (give_found found e).0.heap
give-counts counts None e = (refl, refl)
give-counts counts (Some t) e = counts.give e.heap (replica_of t)

watched-counts : (e : EngineState) (request : Request) → IsOfWatches request → CountsStay e.heap (request_step e request).0.heap
watched-counts e request is =
    let alone = tickets-alone e request is in
    subst (CountsStay e.heap) (sym alone.1) (refl, refl)

request-counted : HeapCounts → (request : Request) (e : EngineState) → IsCounted e.heap (request_step e request).0.heap (flip_of (request_step e request).1)
request-counted counts (requests.Command owner command) e = counted-none e.heap (heap_step e.heap owner command).0 (counts.command e.heap owner command)
request-counted counts requests.Begin e = counted-none e.heap (begin_step e.heap).0 (counts.begin e.heap)
request-counted counts (requests.Shade root) e = counted-none e.heap (shade_step e.heap root).0 (counts.shade e.heap root)
request-counted counts (requests.Deal kind most tray) e = counted-none e.heap (request_step e (requests.Deal kind most tray)).0.heap (deal-counts counts (tray_refusal e tray) e kind most tray)
request-counted counts (requests.Give tray) e = counted-none e.heap (request_step e (requests.Give tray)).0.heap (give-counts counts (tray_named e.trays tray) e)
request-counted counts (requests.Join into other) e = counted-none e.heap e.heap (refl, refl)
request-counted counts requests.Flip e = counts.flip e.heap
request-counted counts requests.Recall e = counted-none e.heap (recall_step e.heap).0 (counts.recall e.heap)
request-counted counts requests.Abandon e = counted-none e.heap (abandon_step e.heap).0 (counts.abandon e.heap)
request-counted counts (requests.Idle words) e = counted-none e.heap (idle_step e.heap words).0 (counts.idle e.heap words)
request-counted counts (requests.Resize words) e = counted-none e.heap (resize_line_step e words).0.heap (resize-either e words (λ x. CountsStay e.heap x.heap) (refl, refl) (λ in_range few. (refl, refl)))
request-counted counts (requests.Tickets tickets) e = counted-none e.heap (request_step e (requests.Tickets tickets)).0.heap (watched-counts e (requests.Tickets tickets) tt)
request-counted counts (requests.Watch owner root) e = counted-none e.heap (request_step e (requests.Watch owner root)).0.heap (watched-counts e (requests.Watch owner root) tt)
request-counted counts (requests.Unwatch ticket) e = counted-none e.heap (request_step e (requests.Unwatch ticket)).0.heap (watched-counts e (requests.Unwatch ticket) tt)
request-counted counts requests.Gone e = counted-none e.heap (request_step e requests.Gone).0.heap (watched-counts e requests.Gone tt)
request-counted counts requests.Trays e = counted-none e.heap e.heap (refl, refl)
request-counted counts requests.Stat e = counted-none e.heap e.heap (refl, refl)
request-counted counts requests.Dump e = counted-none e.heap e.heap (refl, refl)

pub flips_of-requests : HeapCounts → (e : EngineState) (requests : List Request) → (engine_after e requests).heap.flips ≡ e.heap.flips + count_by is_flip (answers_to e requests)
flips_of-requests counts e [] = omega arith
flips_of-requests counts e (request ∷ others) =
    let one = request_step e request in
    omega (arith, flips_of-requests counts one.0 others, (request-counted counts request e).0, count_by-head is_flip one.1 (answers_to one.0 others))

pub root_words_of-requests : HeapCounts → (e : EngineState) (requests : List Request) → (engine_after e requests).heap.root_words ≡ e.heap.root_words + root_words_of (answers_to e requests)
root_words_of-requests counts e [] = omega arith
root_words_of-requests counts e (request ∷ others) =
    let one = request_step e request in
    omega (arith, root_words_of-requests counts one.0 others, (request-counted counts request e).1)
