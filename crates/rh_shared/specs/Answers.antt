-- What an answer of a shared heap says before the heap is closed.
use Rattle.std.specs.Prelude.{◌≡◌, ◌↔◌, ℕ, ◌<◌, ◌≤◌, Bool, true, false, length, Result, Ok, Err, IsOk}
use Rattle.rh_layout.specs.Refusal.{is_limit}
use Rattle.rh_layout.specs.declared.command.Command.{Command}
use Rattle.rh_layout.specs.declared.command.Reply.{Reply}
use Rattle.rh_layout.specs.declared.refusal.Refusal.{Refusal}
use Rattle.rh_model.specs.Plain.{step}
use Rattle.rh_mutator.specs.Commands.{LimitHolds}
use Rattle.rh_mutator.specs.Mutator.{IsMutator, MutatorState, StandsFor}
use Rattle.rh_watches.specs.Watches.{IsWatchTable}
use Rattle.rh_watches.specs.declared.errors.RoomError.{RoomError}
use Rattle.rh_watches.specs.declared.errors.RoomError.TheVariants.{Fewer}
use Rattle.rh_core.specs.Heap.{HeapState, IsWellFormed}
use Rattle.rh_replay.specs.History.{HistoryState}
use Rattle.rh_replay.specs.Legal.{IsLegal, replay}
use Rattle.rh_collector.specs.declared.did.Did.{Did}
use Rattle.rh_collector.specs.Collected.{IsCollected, most_units}
use Rattle.rh_collector.specs.Collector.{IsCollector}
use Rattle.rh_collector.specs.Increment.{Meets, Met}
use Rattle.rh_shared.specs.declared.kept.CallError.{CallError}
use Rattle.rh_shared.specs.declared.kept.CallError.TheVariants as call_errors
use Rattle.rh_shared.specs.Kept.{CallMeets, IsKept, KeptState, kept_call, kept_increment}

-- What is known of all that may lie under a lock: the history is legal, and the heap stands for its
-- replay; heap, collector and table of tickets are what every heap, every collector and every table
-- is; and the history has no more calls than its limit.
pub record IsUnderLock {A : Type 0} (k : KeptState A) : Type 0 where
  pub kept : IsKept k.recorder.history k.collector.heap
  pub heap : IsWellFormed k.collector.heap
  pub collector : IsCollector k.collector
  pub tickets : IsWatchTable k.collector.heap.watches
  pub few : length k.recorder.history.calls ≤ k.recorder.limit

-- Something that may lie under a lock answers this call of an owner so.
pub record AnswersUnderLock (A : Type 0) (owner : ℕ) (command : Command)
    (answer : Result Reply CallError) : Type 0 where
  pub met : Met
  pub held : KeptState A
  pub under : IsUnderLock held
  pub meets : CallMeets met held owner command
  pub answered : answer ≡ (kept_call met held owner command).1

-- In something that may lie under a lock an increment does this.
pub record DoesUnderLock (A : Type 0) (did : Did) : Type 0 where
  pub met : Met
  pub held : KeptState A
  pub under : IsUnderLock held
  pub meets : Meets met held.collector
  pub does : did ≡ (kept_increment met held).1
  pub collected : IsCollected A (most_units held.collector.config.replicators held.collector.heap)
      held.collector.heap (kept_increment met held).0.collector.heap

-- The heap of something that may lie under a lock tells this.
pub record TellsUnderLock (A : Type 0) {X : Type 0} (tells : HeapState → X) (told : X)
    : Type 0 where
  pub held : KeptState A
  pub under : IsUnderLock held
  pub same : told ≡ tells held.collector.heap

-- The heap of something that may lie under the lock answers so where room for so many tickets in all
-- is asked for: it refuses fewer than it has room for, with for how many, and never as many.
pub record MakesRoomUnderLock (A : Type 0) (tickets : ℕ) (answer : Result (Unit {0}) RoomError)
    : Type 0 where
  pub held : KeptState A
  pub under : IsUnderLock held
  pub fewer : (n : ℕ) → (answer ≡ Err (Fewer n))
      ↔ ((tickets < length held.collector.heap.watches.tickets)
      × (n ≡ length held.collector.heap.watches.tickets))
  pub same : tickets ≡ length held.collector.heap.watches.tickets → answer ≡ Ok tt

-- a refusal after a history is the plain heap's; one for a limit refuses what the plain heap
-- accepts, and the heap is at that limit
abbrev pub RefusesAfter : Bool → HistoryState → MutatorState → ℕ → Command → Refusal → Type 0
RefusesAfter false h m owner command refusal = (step (replay h) owner command).1 ≡ Err refusal
RefusesAfter true h m owner command refusal =
    IsOk (step (replay h) owner command).1 × LimitHolds m command refusal

-- so is a reply; that a history is full says nothing of the plain heap
abbrev pub AnswersAfter : HistoryState → MutatorState → ℕ → Command → Result Reply CallError
    → Type 0
AnswersAfter h m owner command (Ok reply) = (step (replay h) owner command).1 ≡ Ok reply
AnswersAfter h m owner command (Err (call_errors.Heap refusal)) =
    RefusesAfter (is_limit refusal) h m owner command refusal
AnswersAfter h m owner command (Err call_errors.TraceFull) = Unit {0}

-- There is a legal history, and a heap that stands for its replay, after which the answer comes.
pub record ComesAfterHistory (owner : ℕ) (command : Command) (answer : Result Reply CallError)
    : Type 0 where
  pub history : HistoryState
  pub legal : IsLegal history
  pub heap : MutatorState
  pub is_heap : IsMutator heap
  pub stands : StandsFor heap (replay history)
  pub answers : AnswersAfter history heap owner command answer
