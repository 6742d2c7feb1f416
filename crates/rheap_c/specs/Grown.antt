-- What a call of C's does on a heap that grows, by its state before and after it. Where none is open
-- it does nothing, with status 12. Each is given what the allocator answers.
use Rattle.std.specs.Prelude.{◌≡◌, ◌≢◌, ◌⊎◌, ◌↔◌, ◌<◌, ◌≤◌, ℕ, suc, ℤ, Bool, true, false, List, [], ◌∷◌, Option, Some, None, Result, Ok, Err, IsOk}
use Rattle.rh_layout.specs.declared.command.Command.{Command}
use Rattle.rh_layout.specs.declared.command.Command.TheVariants.{Load, Same}
use Rattle.rh_layout.specs.declared.command.Reply.{Reply}
use Rattle.rh_layout.specs.declared.command.RootId.{RootId}
use Rattle.rh_layout.specs.declared.refusal.Refusal.{Refusal}
use Rattle.rh_layout.specs.declared.refusal.Refusal.TheVariants.{LogFull, SpaceFull}
use Rattle.rh_layout.specs.Refusal.{rank_of}
use Rattle.rh_model.specs.Plain.{PlainHeap}
use Rattle.rh_mutator.specs.Mutator.{StandsFor}
use Rattle.rh_mutator.specs.StoringAll.{number_stores, numbers_refusal}
use Rattle.rh_core.specs.declared.outcomes.Flipped.{Flipped}
use Rattle.rh_core.specs.runs.Progress.{words_made}
use Rattle.rh_pace.specs.declared.errors.EpochsSpent.{EpochsSpent}
use Rattle.rh_pace.specs.Calls.{IsTransparent}
use Rattle.rh_pace.specs.Collecting.{collect_step}
use Rattle.rh_pace.specs.Paced.{PacedState}
use Rattle.rh_pace.specs.PlainBounds.{plain_after}
use Rattle.rh_pace.specs.Reaching.{AreAllReached, AreEpochsSpent}
use Rattle.rh_growing.specs.Calls.{IsGrowingCall}
use Rattle.rh_growing.specs.Growing.{GrowingState, IsGrowingInTime, growing_collect, growing_increment, growing_insist, growing_stores, with_paced}
use Rattle.rheap_c.specs.declared.handle.Rheap.{Rheap}
use Rattle.rheap_c.specs.declared.value.RheapValue.{RheapValue}
use Rattle.rheap_c.specs.Collected.{collect_status}
use Rattle.rheap_c.specs.Handle.{Calls}
use Rattle.rheap_c.specs.Told.{no_value, same_told, status_of, told_value}

-- It does on the heap inside what is said of heaps of fixed sizes, and the rest stays: so do all
-- calls that read, and those on tickets.
abbrev pub OnPaced : (Option PacedState → Option PacedState → Type 0) → Option GrowingState
    → Option GrowingState → Type 0
OnPaced Does None new = (new ≡ None) × Does None None
OnPaced Does (Some s) new =
    (after : PacedState) × (new ≡ Some (with_paced s after)) × Does (Some s.paced) (Some after)

-- a call on a handle that does so on either kind of heap
abbrev pub CallsOnPaced : (Option PacedState → Option PacedState → Type 0) → Rheap → Rheap → Type 0
CallsOnPaced Does old new = Calls Does (OnPaced Does) old new

-- It is one call of the heap, whose answer the status tells.
abbrev pub IsGrownDone : Option GrowingState → Option GrowingState → ℕ → Command → ℕ → Type 0
IsGrownDone None new owner command status = (new ≡ None) × (status ≡ 12)
IsGrownDone (Some old) new owner command status =
    (given : Bool) × (told : Result Reply Refusal) × (after : GrowingState) × (new ≡ Some after)
    × IsGrowingCall given old after owner command told × (status ≡ status_of told)

-- It is one load, whose answer the status and the value tell.
abbrev pub IsGrownLoaded : Option GrowingState → Option GrowingState → ℕ → RootId → RootId → ℕ → ℕ
    → RheapValue → Type 0
IsGrownLoaded None new owner dst src field status value =
    (new ≡ None) × (status ≡ 12) × (value ≡ no_value)
IsGrownLoaded (Some old) new owner dst src field status value =
    (given : Bool) × (told : Result Reply Refusal) × (after : GrowingState) × (new ≡ Some after)
    × IsGrowingCall given old after owner (Load dst src field) told
    × (status ≡ status_of told) × (value ≡ told_value told)

-- It is one comparison, whose answer the status and the number tell.
abbrev pub IsGrownCompared : Option GrowingState → Option GrowingState → ℕ → RootId → RootId → ℕ → ℕ
    → Type 0
IsGrownCompared None new owner a b status same = (new ≡ None) × (status ≡ 12) × (same ≡ 0)
IsGrownCompared (Some old) new owner a b status same =
    (given : Bool) × (told : Result Reply Refusal) × (after : GrowingState) × (new ≡ Some after)
    × IsGrowingCall given old after owner (Same a b) told
    × (status ≡ status_of told) × (same ≡ same_told told)

-- What a call does that insists on a command, told so.
pub record IsGrownInsistedCall (given : ℕ → Bool) (old new : GrowingState) (owner : ℕ)
    (command : Command) (told : Result Reply Refusal) : Type 0 where
  -- it is the command, tried again after a collection where it found no room, twice at most; after
  -- each collection the heap grows for its object too
  pub state : new ≡ (growing_insist given old owner command).0
  pub answer : told ≡ (growing_insist given old owner command).1
  -- no program sees that the heap collects, nor that it grows
  pub transparent : IsTransparent old.paced new.paced owner command told
  -- where it finds no room, what is left is reached, unless the epochs are spent
  pub reached : (need free : ℕ) → told ≡ Err (SpaceFull need free)
      → AreAllReached new.paced.heap ⊎ AreEpochsSpent new.paced.heap
  -- the log is never full
  pub log : told ≢ Err LogFull
  -- a command of no bigger object than the biggest keeps the heap in time
  pub in_time : IsGrowingInTime old → words_made command ≤ old.growth.biggest
      → IsGrowingInTime new

-- It is one such call of the heap, whose answer the status tells.
abbrev pub IsGrownInsisted : Option GrowingState → Option GrowingState → ℕ → Command → ℕ → Type 0
IsGrownInsisted None new owner command status = (new ≡ None) × (status ≡ 12)
IsGrownInsisted (Some old) new owner command status =
    (given : ℕ → Bool) × (told : Result Reply Refusal) × (after : GrowingState)
    × (new ≡ Some after) × IsGrownInsistedCall given old after owner command told
    × (status ≡ status_of told)

-- What a collection does, told so.
pub record IsGrownCollection (given : Bool) (old new : GrowingState)
    (told : Result Flipped EpochsSpent) : Type 0 where
  -- it is one collection, after which the heap grows
  pub state : new ≡ (growing_collect given 0 old).0
  pub answer : told ≡ (collect_step old.paced).1
  -- it flips where a cycle is on or an epoch is left, and no cycle is on then
  pub flips : IsOk told ↔ ((old.paced.heap.mutators.cycle ≡ true)
      ⊎ (old.paced.heap.epoch < old.paced.heap.mutators.config.last_epoch))
  pub outside : IsOk told → new.paced.heap.mutators.cycle ≡ false
  -- where no cycle was on, all that is left is reached
  pub reached : old.paced.heap.mutators.cycle ≡ false → IsOk told → AreAllReached new.paced.heap
  -- no program sees it
  pub stands : (p : PlainHeap) → StandsFor old.paced.heap.mutators p
      → StandsFor new.paced.heap.mutators p
  -- and the heap is in time then, whatever was before
  pub in_time : IsOk told → IsGrowingInTime new

-- A call that collects.
abbrev pub GrownCollects : Option GrowingState → Option GrowingState → ℕ → Type 0
GrownCollects None new status = (new ≡ None) × (status ≡ 12)
GrownCollects (Some old) new status =
    (given : Bool) × (told : Result Flipped EpochsSpent) × (after : GrowingState)
    × (new ≡ Some after) × IsGrownCollection given old after told × (status ≡ collect_status told)

-- What an increment of collector work does.
pub record IsGrownIncrement (given : Bool) (old new : GrowingState) : Type 0 where
  -- where it ends a cycle the heap grows
  pub state : new ≡ growing_increment given old
  -- no program sees it, and a heap in time stays so
  pub stands : (p : PlainHeap) → StandsFor old.paced.heap.mutators p
      → StandsFor new.paced.heap.mutators p
  pub in_time : IsGrowingInTime old → IsGrowingInTime new

-- A call that does an increment.
abbrev pub GrownIncrements : Option GrowingState → Option GrowingState → ℕ → Type 0
GrownIncrements None new status = (new ≡ None) × (status ≡ 12)
GrownIncrements (Some old) new status =
    (given : Bool) × (after : GrowingState) × (new ≡ Some after) × IsGrownIncrement given old after
    × (status ≡ 0)

-- The heap does each command of a row, and grows after the last where one of them ended a cycle.
pub record AreGrownDone (given : Bool) (old new : GrowingState) (row : List (ℕ × Command))
    : Type 0 where
  pub state : new ≡ growing_stores given old row
  pub stands : (p : PlainHeap) → StandsFor old.paced.heap.mutators p
      → StandsFor new.paced.heap.mutators (plain_after p row)
  -- a heap in time stays so
  pub in_time : IsGrowingInTime old → IsGrowingInTime new

-- these stores are all done, or none is, and the status is that of the refusal
abbrev pub AreGrownStoredUnless : Option Refusal → GrowingState → GrowingState
    → List (ℕ × Command) → ℕ → Type 0
AreGrownStoredUnless None old new row status =
    (given : Bool) × AreGrownDone given old new row × (status ≡ 0)
AreGrownStoredUnless (Some why) old new row status = (new ≡ old) × (status ≡ rank_of why)

-- whole numbers are stored to the fields from one on: to all of them, or to none
abbrev pub AreGrownNumbers : GrowingState → GrowingState → ℕ → RootId → ℕ → List ℤ → ℕ → Type 0
AreGrownNumbers old new owner object from numbers status = AreGrownStoredUnless
    (numbers_refusal old.paced.heap.mutators owner object from numbers) old new
    (number_stores owner object from numbers) status

-- A call that stores so.
abbrev pub AreGrownStored
    : Option GrowingState → Option GrowingState → ℕ → RootId → ℕ → List ℤ → ℕ → Type 0
AreGrownStored None new owner object from numbers status = (new ≡ None) × (status ≡ 12)
AreGrownStored (Some old) new owner object from numbers status =
    (after : GrowingState) × (new ≡ Some after)
    × AreGrownNumbers old after owner object from numbers status

-- they are stored so, or, where the log has too few places for them, after a collection
abbrev pub AreGrownNumbersInsisting
    : GrowingState → GrowingState → ℕ → RootId → ℕ → List ℤ → ℕ → Type 0
AreGrownNumbersInsisting old new owner object from numbers status =
    (status ≢ 9)
    × (AreGrownNumbers old new owner object from numbers status
    ⊎ ((numbers_refusal old.paced.heap.mutators owner object from numbers ≡ Some LogFull)
    × (given : Bool) × (between : GrowingState)
    × IsGrownCollection given old between (collect_step old.paced).1
    × AreGrownNumbers between new owner object from numbers status))

-- A call that stores so: the log is never full.
abbrev pub AreGrownStoredInsisting
    : Option GrowingState → Option GrowingState → ℕ → RootId → ℕ → List ℤ → ℕ → Type 0
AreGrownStoredInsisting None new owner object from numbers status = (new ≡ None) × (status ≡ 12)
AreGrownStoredInsisting (Some old) new owner object from numbers status =
    (after : GrowingState) × (new ≡ Some after)
    × AreGrownNumbersInsisting old after owner object from numbers status

-- what comes of a row once its first command was answered so, which left this: the commands behind it
-- are done, or none is
abbrev pub GoesOn : Result Reply Refusal → GrowingState → GrowingState → ℕ → ℕ → (ℕ → Type 0)
    → Type 0
GoesOn (Ok reply) between new count status Rest = (further : ℕ) × (count ≡ suc further) × Rest further
GoesOn (Err why) between new count status Rest =
    (new ≡ between) × (count ≡ 0) × (status ≡ rank_of why)

-- Commands are done one after the other, each so, up to the first that is refused: so many, and the
-- status is that of the refusal.
abbrev pub DoInTurn
    : (GrowingState → GrowingState → ℕ → Command → Result Reply Refusal → Type 0)
    → GrowingState → GrowingState → List (ℕ × Command) → ℕ → ℕ → Type 0
DoInTurn Does old new [] count status = (new ≡ old) × (count ≡ 0) × (status ≡ 0)
DoInTurn Does old new (call ∷ rest) count status =
    (told : Result Reply Refusal) × (between : GrowingState) × Does old between call.0 call.1 told
    × GoesOn told between new count status (λ further. DoInTurn Does between new rest further status)

-- one command, whatever the allocator answered
abbrev pub DoesOnce : GrowingState → GrowingState → ℕ → Command → Result Reply Refusal → Type 0
DoesOnce old new owner command told = (given : Bool) × IsGrowingCall given old new owner command told

-- one that is insisted on
abbrev pub InsistsOnce : GrowingState → GrowingState → ℕ → Command → Result Reply Refusal → Type 0
InsistsOnce old new owner command told =
    (given : ℕ → Bool) × IsGrownInsistedCall given old new owner command told

-- A call that does commands so, and tells how many.
abbrev pub IsGrownRowDone : Option GrowingState → Option GrowingState → List (ℕ × Command) → ℕ → ℕ
    → Type 0
IsGrownRowDone None new row count status = (new ≡ None) × (count ≡ 0) × (status ≡ 12)
IsGrownRowDone (Some old) new row count status =
    (after : GrowingState) × (new ≡ Some after) × DoInTurn DoesOnce old after row count status

-- A call that does each by insisting on it.
abbrev pub IsGrownRowInsisted : Option GrowingState → Option GrowingState → List (ℕ × Command) → ℕ
    → ℕ → Type 0
IsGrownRowInsisted None new row count status = (new ≡ None) × (count ≡ 0) × (status ≡ 12)
IsGrownRowInsisted (Some old) new row count status =
    (after : GrowingState) × (new ≡ Some after) × DoInTurn InsistsOnce old after row count status
