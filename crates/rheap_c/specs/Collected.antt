-- What a call of C's does that collects, by the state of the handle before and after it. Where no
-- heap is open it does nothing, with status 12.
use Rattle.std.specs.Prelude.{◌≡◌, ℕ, ◌+◌, ◌<◌, ◌≤◌, ◌⊎◌, ◌↔◌, true, false, Option, Some, None, Result, Ok, Err, IsOk}
use Rattle.std.specs.declared.alloc.Global.{Global}
use Rattle.rh_model.specs.Plain.{PlainHeap}
use Rattle.rh_mutator.specs.Mutator.{StandsFor}
use Rattle.rh_core.specs.declared.outcomes.Flipped.{Flipped}
use Rattle.rh_core.specs.runs.Collected.{IsCollected}
use Rattle.rh_pace.specs.declared.errors.EpochsSpent.{EpochsSpent}
use Rattle.rh_pace.specs.Collecting.{collect_step}
use Rattle.rh_pace.specs.Paced.{PacedState, with_increment}
use Rattle.rh_pace.specs.Reaching.{AreAllReached}

-- What a collection does, told so.
pub record IsCollection (old new : PacedState) (told : Result Flipped EpochsSpent) : Type 0 where
  pub state : new ≡ (collect_step old).0
  pub answer : told ≡ (collect_step old).1
  -- it flips where a cycle is on or an epoch is left, and no cycle is on then
  pub flips : IsOk told ↔ ((old.heap.mutators.cycle ≡ true)
      ⊎ (old.heap.epoch < old.heap.mutators.config.last_epoch))
  pub outside : IsOk told → new.heap.mutators.cycle ≡ false
  -- where no cycle was on, all that is left is reached
  pub reached : old.heap.mutators.cycle ≡ false → IsOk told → AreAllReached new.heap
  -- it is collector work, and no program sees it
  pub collected : IsCollected Global old.heap new.heap
  pub stands : (p : PlainHeap) → StandsFor old.heap.mutators p → StandsFor new.heap.mutators p

-- the status of a collection: 0 after a flip, and 11 where the epochs are spent
abbrev pub collect_status : Result Flipped EpochsSpent → ℕ
collect_status (Ok flipped) = 0
collect_status (Err spent) = 11

-- A call that collects.
abbrev pub Collects : Option PacedState → Option PacedState → ℕ → Type 0
Collects None new status = (new ≡ None) × (status ≡ 12)
Collects (Some old) new status =
    (told : Result Flipped EpochsSpent) × (after : PacedState) × (new ≡ Some after)
    × IsCollection old after told × (status ≡ collect_status told)

-- What an increment of collector work does.
pub record IsIncrement (old new : PacedState) : Type 0 where
  pub state : new ≡ with_increment old
  -- it spends 5 units at most, and none where a cycle begins in it
  pub bounded : new.heap.work.spent ≤ old.heap.work.spent + 5
  pub begun : new.did.began ≡ true → new.heap.work.spent ≡ 0
  -- it is collector work, and no program sees it
  pub collected : IsCollected Global old.heap new.heap
  pub stands : (p : PlainHeap) → StandsFor old.heap.mutators p → StandsFor new.heap.mutators p

-- A call that does an increment.
abbrev pub Increments : Option PacedState → Option PacedState → ℕ → Type 0
Increments None new status = (new ≡ None) × (status ≡ 12)
Increments (Some old) new status =
    (after : PacedState) × (new ≡ Some after) × IsIncrement old after × (status ≡ 0)
