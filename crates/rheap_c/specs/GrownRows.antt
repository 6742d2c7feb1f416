-- Rows of commands on a heap that grows, as lists of commands: what each step makes of the heap, whatever
-- the allocator answers in it.
use Rattle.std.specs.Prelude.{◌≡◌, ℕ, suc, List, [], ◌∷◌, ◌++◌, length, map, take, Result, Ok, Err}
use Rattle.rh_layout.specs.declared.command.Command.{Command}
use Rattle.rh_layout.specs.declared.command.Reply.{Reply}
use Rattle.rh_layout.specs.declared.refusal.Refusal.{Refusal}
use Rattle.rh_layout.specs.Refusal.{rank_of}
use Rattle.rh_growing.specs.Growing.{GrowingState}

-- how a command is done, by what the allocator answers in it
abbrev pub Step : Type 0 → Type 0
Step G = G → GrowingState → ℕ → Command → GrowingState × Result Reply Refusal

-- what a list of commands makes of the heap, each done so
abbrev pub list_after : {G : Type 0} → Step G → (ℕ → G) → GrowingState → List (ℕ × Command)
    → GrowingState
list_after step given s [] = s
list_after step given s (call ∷ rest) =
    list_after step (λ i. given (suc i)) (step (given 0) s call.0 call.1).0 rest

-- and the answers to it
abbrev pub list_answers : {G : Type 0} → Step G → (ℕ → G) → GrowingState → List (ℕ × Command)
    → List (Result Reply Refusal)
list_answers step given s [] = []
list_answers step given s (call ∷ rest) =
    (step (given 0) s call.0 call.1).1
    ∷ list_answers step (λ i. given (suc i)) (step (given 0) s call.0 call.1).0 rest

-- All commands of a row were done, each with a reply.
pub record AreAllDone {G : Type 0} (step : Step G) (old new : GrowingState)
    (row : List (ℕ × Command)) (count : ℕ) : Type 0 where
  -- what the allocator answered, and what was replied
  pub given : ℕ → G
  pub replies : List Reply
  -- the heap is what the list makes of it, and these are the answers to the list
  pub state : new ≡ list_after step given old row
  pub answers : list_answers step given old row ≡ map (λ reply. Ok reply) replies
  pub many : count ≡ length row

-- The commands before the one that was refused were done, each with a reply, and that one was refused.
pub record AreDoneUntilRefused {G : Type 0} (step : Step G) (old new : GrowingState)
    (row : List (ℕ × Command)) (count status : ℕ) : Type 0 where
  pub given : ℕ → G
  pub replies : List Reply
  pub why : Refusal
  -- the heap is what these make of it, and they were answered so
  pub state : new ≡ list_after step given old (take (suc count) row)
  pub answers : list_answers step given old (take (suc count) row)
      ≡ map (λ reply. Ok reply) replies ++ Err why ∷ []
  pub many : count ≡ length replies
  pub told : status ≡ rank_of why
