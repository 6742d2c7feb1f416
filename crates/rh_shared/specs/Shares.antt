-- Mutators' own lists, and how they stand to the history that all calls are noted in.
use Rattle.std.specs.Prelude.{◌≡◌, ◌≢◌, ℕ, zero, suc, ◌+◌, ◌<◌, ◌≤◌, ◌==◌, nat_lt, nat_le, ◌&&◌, Bool, true, false, if◌then◌else◌, List, [], ◌∷◌, ◌++◌, filter, length, slice_get, take, Option, Some, None, Result, Ok, Err}
use Rattle.rh_layout.specs.Refusal.{is_limit}
use Rattle.rh_layout.specs.declared.command.Command.{Command}
use Rattle.rh_layout.specs.declared.command.Reply.{Reply}
use Rattle.rh_layout.specs.declared.refusal.Refusal.{Refusal}
use Rattle.rh_replay.specs.declared.call.Call.{Call}
use Rattle.rh_replay.specs.History.{RecorderState, empty_history, with_call}
use Rattle.rh_shared.specs.declared.kept.CallError.{CallError}
use Rattle.rh_shared.specs.declared.kept.CallError.TheVariants as call_errors
use Rattle.rh_shared.specs.declared.closing.CloseError.{CloseError}
use Rattle.rh_shared.specs.declared.closing.CloseError.TheVariants as close_errors
use Rattle.rh_shared.specs.Start.{StartState}

-- a mutator: its owner, and its share of the history with the most calls that this may have
pub record MutatorState : Type 0 where
  pub owner : ℕ
  pub share : RecorderState

-- the mutator of an owner without a call, of a heap with so many owners and slots, with room for so
-- many calls
abbrev pub new_mutator : ℕ → ℕ → ℕ → ℕ → MutatorState
new_mutator owners slots limit owner = record {
  owner = owner;
  share = record { history = empty_history owners slots; limit = limit };
}

-- those of the first n owners, in order
abbrev pub first_mutators : ℕ → ℕ → ℕ → ℕ → List MutatorState
first_mutators owners slots limit zero = []
first_mutators owners slots limit (suc n) =
    first_mutators owners slots limit n ++ new_mutator owners slots limit n ∷ []

-- one mutator for each owner of a heap that starts, in order
abbrev pub new_mutators : {A : Type 0} → StartState A → List MutatorState
new_mutators s = first_mutators s.heap.mutators.config.owners s.heap.mutators.config.slots
    s.config.history s.heap.mutators.config.owners

-- a call is added to its share
abbrev pub with_own_call : MutatorState → Command → Result Reply Refusal → MutatorState
with_own_call m command answer = record m {
  share = record m.share {
    history = with_call m.share.history
        (record { owner = m.owner; command = command; answer = answer });
  };
}

-- a refused call is added unless it was refused for a limit of the heap
abbrev pub with_refused : Bool → MutatorState → Command → Refusal → MutatorState
with_refused true m command refusal = m
with_refused false m command refusal = with_own_call m command (Err refusal)

-- the mutator once its call was answered so: what the plain heap answers is added
abbrev pub with_answer : MutatorState → Command → Result Reply CallError → MutatorState
with_answer m command (Ok reply) = with_own_call m command (Ok reply)
with_answer m command (Err (call_errors.Heap refusal)) =
    with_refused (is_limit refusal) m command refusal
with_answer m command (Err call_errors.TraceFull) = m

-- the calls of an owner, in order
abbrev pub calls_of : ℕ → List Call → List Call
calls_of owner calls = filter (λ call. call.owner == owner) calls

-- what the first mutator of an owner has in its share, and nothing where the owner has none
abbrev pub share_of : ℕ → List MutatorState → List Call
share_of owner [] = []
share_of owner (m ∷ ms) = if m.owner == owner then m.share.history.calls else share_of owner ms

-- how many mutators an owner has
abbrev pub mutator_count : ℕ → List MutatorState → ℕ
mutator_count owner [] = 0
mutator_count owner (m ∷ ms) =
    if m.owner == owner then 1 + mutator_count owner ms else mutator_count owner ms

-- how many mutators an owner is to have: one where the heap has the owner, else none
abbrev pub due_to : ℕ → ℕ → ℕ
due_to owners owner = if nat_lt owner owners then 1 else 0

-- there is exactly one mutator for each owner of the heap, and no other
abbrev pub IsOneEach : ℕ → List MutatorState → Type 0
IsOneEach owners ms =
    (owner : ℕ) → mutator_count owner ms ≡ due_to owners owner

-- each owner's share is its calls in the history, owners that the heap hasn't with them, whose
-- shares are empty
abbrev pub HasShares : List MutatorState → List Call → Type 0
HasShares ms calls = (owner : ℕ) → share_of owner ms ≡ calls_of owner calls

-- how many calls the shares have together
abbrev pub calls_together : List MutatorState → ℕ
calls_together [] = 0
calls_together (m ∷ ms) = length m.share.history.calls + calls_together ms

-- the first place where two lists differ or one has ended, counted from 1
pub record IsFirstDifference (xs ys : List Call) (at : ℕ) : Type 0 where
  pub before : ℕ
  pub counted : at ≡ before + 1
  pub same : take before xs ≡ take before ys
  pub differ : slice_get xs before ≢ slice_get ys before

-- the least owner whose share isn't its calls in the history, and the first place where they differ
pub record HistoryDiffersAt (ms : List MutatorState) (calls : List Call) (owner at : ℕ)
    : Type 0 where
  pub differs : IsFirstDifference (share_of owner ms) (calls_of owner calls) at
  pub least : (o : ℕ) → o < owner → share_of o ms ≡ calls_of o calls

-- why a shared heap isn't closed
abbrev pub WhyNotClosed : ℕ → List MutatorState → List Call → CloseError → Type 0
WhyNotClosed owners ms calls close_errors.SharesMissing = ¬ IsOneEach owners ms
WhyNotClosed owners ms calls (close_errors.HistoryDiffers owner at) =
    IsOneEach owners ms × HistoryDiffersAt ms calls owner at

-- Words of laws.

-- two lists don't begin alike: one alone has ended, or their first calls are two
abbrev pub BeginApart : List Call → List Call → Type 0
BeginApart [] [] = ⊥
BeginApart [] (call ∷ calls) = Unit {0}
BeginApart (call ∷ calls) [] = Unit {0}
BeginApart (call ∷ calls) (other ∷ others) = call ≢ other

-- two lists have a beginning in common, and part at this place, which is the next one after it
pub record PartAt (xs ys : List Call) (at : ℕ) : Type 0 where
  pub common : List Call
  pub of_xs : List Call
  pub of_ys : List Call
  pub xs_go : xs ≡ common ++ of_xs
  pub ys_go : ys ≡ common ++ of_ys
  pub next : length common + 1 ≡ at
  pub apart : BeginApart of_xs of_ys

-- Words of the comparison alone.

-- whether each mutator is for one of so many owners
abbrev pub have_owners_below : ℕ → List MutatorState → Bool
have_owners_below owners [] = true
have_owners_below owners (m ∷ ms) = nat_lt m.owner owners && have_owners_below owners ms

-- the lesser of an owner that was found and another
abbrev pub lesser_of : Option ℕ → ℕ → Option ℕ
lesser_of None owner = Some owner
lesser_of (Some least) owner = if nat_le least owner then Some least else Some owner

-- the same, where only an owner that a heap with so many hasn't is looked for
abbrev pub lesser_stranger : Option ℕ → ℕ → ℕ → Option ℕ
lesser_stranger found owner owners =
    if nat_lt owner owners then found else lesser_of found owner

-- this is the least owner with a call that a heap with so many hasn't, if there is one
abbrev pub IsLeastStranger : Option ℕ → ℕ → List Call → Type 0
IsLeastStranger None owners calls = (o : ℕ) → owners ≤ o → calls_of o calls ≡ []
IsLeastStranger (Some owner) owners calls =
    (owners ≤ owner) × (calls_of owner calls ≢ [])
    × ((o : ℕ) → owners ≤ o → o < owner → calls_of o calls ≡ [])
