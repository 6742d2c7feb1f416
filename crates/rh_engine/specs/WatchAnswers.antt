-- The texts of the answers to the lines of watches, without line ends, and answers whose numbers fit.
use Rattle.std.specs.Prelude.{ℕ, ⊤, Bool, true, false, List, [], ◌∷◌, ◌++◌, Result, Ok, Err, codes, decimal}
use Rattle.std.specs.List.{flat_map, AllByRecursion}
use Rattle.rh_core.specs.declared.errors.WatchError.{WatchError}
use Rattle.rh_core.specs.declared.errors.WatchError.TheVariants as watches
use Rattle.rh_syntax.specs.CommandAnswers.{IsU128}
use Rattle.rh_engine.specs.declared.engine.TicketsRefusal.{TicketsRefusal}
use Rattle.rh_engine.specs.declared.engine.TicketsRefusal.TheVariants as tickets_refusals

-- tickets N
abbrev pub tickets_text : Result ℕ TicketsRefusal → List ℕ
tickets_text (Ok tickets) = codes "tickets " ++ decimal tickets
tickets_text (Err (tickets_refusals.Fewer now)) = codes "refused Fewer " ++ decimal now
tickets_text (Err tickets_refusals.TooMany) = codes "refused TooMany"

-- ticket T
abbrev pub watch_text : Result ℕ WatchError → List ℕ
watch_text (Ok ticket) = codes "ticket " ++ decimal ticket
watch_text (Err watches.NoRoot) = codes "refused NoRoot"
watch_text (Err watches.NotYours) = codes "refused NotYours"
watch_text (Err watches.NotObject) = codes "refused NotObject"
watch_text (Err watches.Full) = codes "refused Full"

-- whether the ticket watched an object
abbrev pub unwatch_text : Bool → List ℕ
unwatch_text true = codes "unwatched yes"
unwatch_text false = codes "unwatched no"

-- a space and the number of a ticket
abbrev pub next_ticket : ℕ → List ℕ
next_ticket ticket = 32 ∷ decimal ticket

-- gone none, or gone and the tickets in order
abbrev pub gone_text : List ℕ → List ℕ
gone_text [] = codes "gone none"
gone_text (ticket ∷ tickets) = codes "gone" ++ flat_map next_ticket (ticket ∷ tickets)

-- what is answered to `tickets`: how many they are fits
abbrev pub IsToldTickets : Result ℕ TicketsRefusal → Type 0
IsToldTickets (Ok tickets) = IsU128 tickets
IsToldTickets (Err (tickets_refusals.Fewer now)) = IsU128 now
IsToldTickets other = ⊤

-- to `watch`: the ticket does
abbrev pub IsToldWatch : Result ℕ WatchError → Type 0
IsToldWatch (Ok ticket) = IsU128 ticket
IsToldWatch (Err why) = ⊤

-- to `gone`: each ticket does
abbrev pub IsToldGone : List ℕ → Type 0
IsToldGone tickets = AllByRecursion IsU128 tickets
