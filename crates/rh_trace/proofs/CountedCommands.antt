-- A summary counts the requests that are commands, and the commands that the heap refused.
use Rattle.std.proofs.Common.{◌≡◌, ℕ, ◌+◌, cond, List, [], ◌∷◌, ◌++◌, Option, Some, None, refl, sym, ap, ◌∙◌, arith}
use Rattle.std.specs.Prelude.{count_by}
use Rattle.std.specs.List.{AllByRecursion}
use Rattle.rh_core.specs.declared.event.Event.{Event}
use Rattle.rh_core.specs.declared.event.Event.TheVariants as events
use Rattle.rh_layout.specs.declared.kind.Kind.{Kind}
use Rattle.rh_core.specs.Dealing.{deal_step}
use Rattle.rh_core.specs.Heap.{HeapState}
use Rattle.rh_core.specs.runs.Run.{event_step, answers_of}
use Rattle.rh_engine.specs.declared.engine.DealRefusal.{DealRefusal}
use Rattle.rh_syntax.specs.declared.request.Request.{Request}
use Rattle.rh_syntax.specs.declared.request.Request.TheVariants as requests
use Rattle.rh_trace.specs.Answers.{is_answer, is_refused}
use Rattle.rh_engine.specs.Engine.{EngineState, tray_refusal, deal_unless, give_found}
use Rattle.rh_trace.specs.Events.{event_unless, gives_of, request_events, events_of, ChangesByEvents, is_command, is_refused_command}
use Rattle.rh_trace.specs.Run.{request_step, answers_to}
use Rattle.rh_engine.specs.Trays.{Tray, tray_named, replica_of}
use Rattle.rh_trace.proofs.CountsByHead.{count_by-head}
use Rattle.rh_trace.proofs.LinesAreEvents.{heap-of_deal}

-- a request is a command where a command is answered
is_answer-request : (e : EngineState) (request : Request) → is_answer (request_step e request).1 ≡ is_command request
is_answer-request e (requests.Command owner command) = refl
is_answer-request e requests.Begin = refl
is_answer-request e (requests.Shade root) = refl
is_answer-request e (requests.Deal kind most tray) = refl
is_answer-request e (requests.Give tray) = refl
is_answer-request e (requests.Join into other) = refl
is_answer-request e requests.Flip = refl
is_answer-request e requests.Recall = refl
is_answer-request e requests.Abandon = refl
is_answer-request e (requests.Idle words) = refl
is_answer-request e (requests.Resize words) = refl
is_answer-request e (requests.Tickets tickets) = refl
is_answer-request e (requests.Watch owner root) = refl
is_answer-request e (requests.Unwatch ticket) = refl
is_answer-request e requests.Gone = refl
is_answer-request e requests.Trays = refl
is_answer-request e requests.Stat = refl
is_answer-request e requests.Dump = refl

pub commands_of-requests : (e : EngineState) (requests : List Request) → count_by is_answer (answers_to e requests) ≡ count_by is_command requests
commands_of-requests e [] = refl
commands_of-requests e (request ∷ others) =
    let one = request_step e request in
    count_by-head is_answer one.1 (answers_to one.0 others)
    ∙ ap (λ b. cond b 1 0 + count_by is_answer (answers_to one.0 others)) (is_answer-request e request)
    ∙ ap (λ n. cond (is_command request) 1 0 + n) (commands_of-requests one.0 others)
    ∙ sym (count_by-head is_command request others)

module _ (A : Type 0) where
  -- how many commands a heap refuses of these events
  abbrev refusals : HeapState → List (Event A) → ℕ
  refusals h several = count_by is_refused_command (answers_of h several)

  refusals-first : (e : EngineState) (event : Event A) (rest : List (Event A))
      → refusals e.heap (event ∷ rest) ≡ cond (is_refused_command (event_step e.heap event).1) 1 0 + refusals (event_step e.heap event).0 rest
  refusals-first e event rest = count_by-head is_refused_command (event_step e.heap event).1 (answers_of (event_step e.heap event).0 rest)

  -- an event that is no command, or that is none at all, counts nothing
  refusals-deal : (why : Option DealRefusal) (e : EngineState) (kind : Kind) (most : ℕ) (name : List ℕ) (rest : List (Event A))
      → refusals e.heap (event_unless why (events.Deal kind most) ++ rest) ≡ 0 + refusals (deal_unless why e kind most name).0.heap rest
  refusals-deal (Some why) e kind most name rest = omega arith
  refusals-deal None e kind most name rest =
      let dealt = deal_step e.heap kind most in
      refusals-first e (events.Deal kind most) rest ∙ ap (λ h. 0 + refusals h rest) (sym (heap-of_deal dealt.0 dealt.1 e.trays name))

  refusals-give : (t : Option Tray) (e : EngineState) (rest : List (Event A)) → refusals e.heap (gives_of t ++ rest) ≡ 0 + refusals (give_found t e).0.heap rest
  refusals-give None e rest = omega arith
  refusals-give (Some t) e rest = refusals-first e (events.Give (replica_of t)) rest

  -- the heap refuses a command where its request is answered a refusal
  refusals-request : (e : EngineState) (request : Request) → ChangesByEvents request → (rest : List (Event A))
      → refusals e.heap (request_events e request ++ rest) ≡ cond (is_refused (request_step e request).1) 1 0 + refusals (request_step e request).0.heap rest
  refusals-request e (requests.Command owner command) leaves rest = refusals-first e (events.Command owner command) rest
  refusals-request e requests.Begin leaves rest = refusals-first e events.Begin rest
  refusals-request e (requests.Shade root) leaves rest = refusals-first e (events.Shade root) rest
  refusals-request e (requests.Deal kind most tray) leaves rest = refusals-deal (tray_refusal e tray) e kind most tray rest
  refusals-request e (requests.Give tray) leaves rest = refusals-give (tray_named e.trays tray) e rest
  refusals-request e (requests.Join into other) leaves rest = omega arith
  refusals-request e requests.Flip leaves rest = refusals-first e events.Flip rest
  refusals-request e requests.Recall leaves rest = refusals-first e events.Recall rest
  refusals-request e requests.Abandon leaves rest = refusals-first e events.Abandon rest
  refusals-request e (requests.Idle words) leaves rest = refusals-first e (events.Idle words) rest
  refusals-request e (requests.Resize words) leaves rest = absurd leaves
  refusals-request e (requests.Tickets tickets) leaves rest = absurd leaves
  refusals-request e (requests.Watch owner root) leaves rest = absurd leaves
  refusals-request e (requests.Unwatch ticket) leaves rest = absurd leaves
  refusals-request e requests.Gone leaves rest = absurd leaves
  refusals-request e requests.Trays leaves rest = omega arith
  refusals-request e requests.Stat leaves rest = omega arith
  refusals-request e requests.Dump leaves rest = omega arith

  pub refused_of-requests : (e : EngineState) (requests : List Request) → AllByRecursion ChangesByEvents requests → count_by is_refused (answers_to e requests) ≡ refusals e.heap (events_of e requests)
  refused_of-requests e [] leave = refl
  refused_of-requests e (request ∷ others) leave =
      let one = request_step e request in
      count_by-head is_refused one.1 (answers_to one.0 others)
      ∙ ap (λ n. cond (is_refused one.1) 1 0 + n) (refused_of-requests one.0 others leave.1)
      ∙ sym (refusals-request e request leave.0 (events_of one.0 others))
