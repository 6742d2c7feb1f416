-- The events that the requests of a trace are to the heap.
use Rattle.std.specs.Prelude.{◌≡◌, Bool, true, false, is_err, List, [], ◌∷◌, ◌++◌, length, Option, Some, None, Result, Ok, Err}
use Rattle.rh_core.specs.declared.answer.Answer.{Answer}
use Rattle.rh_core.specs.declared.answer.Answer.TheVariants as heap_answers
use Rattle.rh_core.specs.declared.event.Event.{Event}
use Rattle.rh_core.specs.declared.event.Event.TheVariants as events
use Rattle.rh_core.specs.declared.outcomes.Dealt.{Dealt}
use Rattle.rh_core.specs.declared.outcomes.Given.{Given}
use Rattle.rh_core.specs.declared.errors.DealError.{DealError}
use Rattle.rh_core.specs.declared.errors.GiveError.{GiveError}
use Rattle.rh_engine.specs.declared.engine.TrayDeal.{TrayDeal}
use Rattle.rh_engine.specs.declared.engine.DealRefusal.{DealRefusal}
use Rattle.rh_engine.specs.declared.engine.DealRefusal.TheVariants as deal_refusals
use Rattle.rh_engine.specs.declared.engine.GiveRefusal.TheVariants as give_refusals
use Rattle.rh_trace.specs.Answers as answers
use Rattle.rh_trace.specs.Answers.{Answered}
use Rattle.rh_syntax.specs.declared.request.Request.{Request}
use Rattle.rh_syntax.specs.declared.request.Request.TheVariants as requests
use Rattle.rh_engine.specs.Engine.{EngineState, tray_refusal}
use Rattle.rh_trace.specs.Run.{request_step}
use Rattle.rh_engine.specs.Trays.{Tray, tray_named, replica_of}

module _ {A : Type 0} where
  -- a deal, unless the tray can't take a piece
  abbrev pub event_unless : Option DealRefusal → Event A → List (Event A)
  event_unless (Some why) deal = []
  event_unless None deal = deal ∷ []

  -- a give of what a tray holds, if there is one
  abbrev pub gives_of : Option Tray → List (Event A)
  gives_of None = []
  gives_of (Some t) = events.Give (replica_of t) ∷ []

  -- the event that a request is to the heap, if it is one: a command, a begin, a shade, a deal into
  -- a tray that can take it, a give of a tray that is there, a flip, a recall, an abandon, or idle
  -- words
  abbrev pub request_events : EngineState → Request → List (Event A)
  request_events e (requests.Command owner command) = events.Command owner command ∷ []
  request_events e requests.Begin = events.Begin ∷ []
  request_events e (requests.Shade root) = events.Shade root ∷ []
  request_events e (requests.Deal kind most tray) =
      event_unless (tray_refusal e tray) (events.Deal kind most)
  request_events e (requests.Give tray) = gives_of (tray_named e.trays tray)
  request_events e requests.Flip = events.Flip ∷ []
  request_events e requests.Recall = events.Recall ∷ []
  request_events e requests.Abandon = events.Abandon ∷ []
  request_events e (requests.Idle words) = events.Idle words ∷ []
  request_events e other = []

  -- the events that requests are to the heap, in order; a resize is none, and no line of watches is
  abbrev pub events_of : EngineState → List Request → List (Event A)
  events_of e [] = []
  events_of e (request ∷ others) =
      request_events e request ++ events_of (request_step e request).0 others

-- the request changes the heap by its events alone: it is no resize, and no line of watches
abbrev pub ChangesByEvents : Request → Type 0
ChangesByEvents (requests.Resize words) = ⊥
ChangesByEvents (requests.Tickets tickets) = ⊥
ChangesByEvents (requests.Watch owner root) = ⊥
ChangesByEvents (requests.Unwatch ticket) = ⊥
ChangesByEvents requests.Gone = ⊥
ChangesByEvents other = Unit {0}

-- the request is a line of watches
abbrev pub IsOfWatches : Request → Type 0
IsOfWatches (requests.Tickets tickets) = Unit {0}
IsOfWatches (requests.Watch owner root) = Unit {0}
IsOfWatches (requests.Unwatch ticket) = Unit {0}
IsOfWatches requests.Gone = Unit {0}
IsOfWatches other = ⊥

-- the request is an owner's command
abbrev pub is_command : Request → Bool
is_command (requests.Command owner command) = true
is_command other = false

-- the heap refused a command
abbrev pub is_refused_command : Answer → Bool
is_refused_command (heap_answers.Command answer) = is_err answer
is_refused_command other = false

-- the request may change the trays: it is a deal, or a join
abbrev pub MayChangeTrays : Request → Type 0
MayChangeTrays (requests.Deal kind most tray) = Unit {0}
MayChangeTrays (requests.Join into other) = Unit {0}
MayChangeTrays other = ⊥

-- An answer tells what the heap answers to a deal: how many items the piece has, and how many
-- entries were passed over; or the heap's refusal.
abbrev pub TellsDealt : Result Dealt DealError → Answered → Type 0
TellsDealt (Ok dealt) answered =
    (counted : TrayDeal) × (answered ≡ answers.Deal (Ok counted))
    × (counted.items ≡ length dealt.piece.items) × (counted.passed ≡ dealt.passed)
TellsDealt (Err why) answered = answered ≡ answers.Deal (Err (deal_refusals.Heap why))

-- An answer tells what the heap answers to a give: what was given, or the heap's refusal.
abbrev pub TellsGiven : Result Given GiveError → Answered → Type 0
TellsGiven (Ok given) answered = answered ≡ answers.Give (Ok given)
TellsGiven (Err why) answered = answered ≡ answers.Give (Err (give_refusals.Heap why))

-- What is answered to a request is what the heap answers to the event that it is, if it is one.
abbrev pub TellsAnswer : List Answer → Answered → Type 0
TellsAnswer [] answered = Unit {0}
TellsAnswer (heap_answers.Command answer ∷ []) answered = answered ≡ answers.Answer answer
TellsAnswer (heap_answers.Begin answer ∷ []) answered = answered ≡ answers.Begin answer
TellsAnswer (heap_answers.Shade answer ∷ []) answered = answered ≡ answers.Shade answer
TellsAnswer (heap_answers.Deal answer ∷ []) answered = TellsDealt answer answered
TellsAnswer (heap_answers.Give answer ∷ []) answered = TellsGiven answer answered
TellsAnswer (heap_answers.Flip answer ∷ []) answered = answered ≡ answers.Flip answer
TellsAnswer (heap_answers.Recall answer ∷ []) answered = answered ≡ answers.Recall answer
TellsAnswer (heap_answers.Abandon answer ∷ []) answered = answered ≡ answers.Abandon answer
TellsAnswer (heap_answers.Idle answer ∷ []) answered = answered ≡ answers.Idle answer
TellsAnswer (first ∷ second ∷ others) answered = ⊥
