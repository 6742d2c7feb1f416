-- What it means that a program's calls are accepted, and lead to a state.
use Rattle.std.specs.Prelude.{◌≡◌, ℕ, All, List, Result, Ok, Err, IsOk}
use Rattle.rh_layout.specs.declared.command.Command.{Command}
use Rattle.rh_layout.specs.declared.refusal.Refusal.{Refusal}
use Rattle.rh_mutator.specs.declared.config.Config.{Config}
use Rattle.rh_core.specs.Heap.{new_heap}
use Rattle.rh_pace.specs.Pace.{paced_by}
use Rattle.rh_pace.specs.Paced.{PacedState, paced_heap}
use Rattle.rh_pace.specs.InTime.{paced_after, paced_replies}

-- These calls lead a heap to a state: each is accepted, and it is in this state after them.
pub record LeadTo (s : PacedState) (calls : List (ℕ × Command)) (last : PacedState) : Type 0 where
  pub accepted : All (λ reply. IsOk reply) (paced_replies s calls)
  pub after : paced_after s calls ≡ last

-- What the queue's heap is made with: 2,218 words at ratio 8, for two owners with 3 slots.
abbrev pub queue_config : Config
queue_config = record {
  words = 2218;
  ratio = 8;
  owners = 2;
  slots = 3;
  log_limit = 603;
  last_number = 4611686018427387904;
  last_epoch = 4611686018427387904;
}

-- the new heap, at the pace for 1,000 live words and cells of 4
abbrev pub queue_heap : PacedState
queue_heap = paced_heap (new_heap queue_config) (paced_by 601 4 8)

-- All was accepted, and this holds.
abbrev pub IsServed : {X : Type 0} → Result X Refusal → Type 0 → Type 0
IsServed (Ok x) P = P
IsServed (Err refusal) P = ⊥
