-- What a call of C's does that insists on room for an owner's command, by the state of the handle
-- before and after it.
use Rattle.std.specs.Prelude.{◌≡◌, ◌≢◌, ℕ, ◌+◌, ◌<◌, ◌⊎◌, Option, Some, None, Result, Err}
use Rattle.rh_layout.specs.declared.command.Command.{Command}
use Rattle.rh_layout.specs.declared.command.Reply.{Reply}
use Rattle.rh_layout.specs.declared.refusal.Refusal.{Refusal}
use Rattle.rh_layout.specs.declared.refusal.Refusal.TheVariants.{LogFull, SpaceFull}
use Rattle.rh_space.specs.Space.{used_words}
use Rattle.rh_pace.specs.Calls.{IsTransparent}
use Rattle.rh_pace.specs.Collecting.{insist_step}
use Rattle.rh_pace.specs.Paced.{PacedState}
use Rattle.rh_pace.specs.Reaching.{AreAllReached, AreEpochsSpent}
use Rattle.rheap_c.specs.Told.{status_of}

-- What a call does that insists on a command, told so.
pub record IsInsistedCall (old new : PacedState) (owner : ℕ) (command : Command)
    (told : Result Reply Refusal) : Type 0 where
  -- it is the command, tried again after a collection where it found no room, twice at most
  pub state : new ≡ (insist_step old owner command).0
  pub answer : told ≡ (insist_step old owner command).1
  -- no program sees that the heap collects
  pub transparent : IsTransparent old new owner command told
  -- where it finds no room, what is left and the object don't fit together
  pub words : (need free : ℕ) → told ≡ Err (SpaceFull need free)
      → new.heap.mutators.space.words < used_words new.heap.mutators.space.objects + need
  -- and what is left is reached, unless the epochs are spent
  pub reached : (need free : ℕ) → told ≡ Err (SpaceFull need free)
      → AreAllReached new.heap ⊎ AreEpochsSpent new.heap
  -- the log is never full
  pub log : told ≢ Err LogFull

-- It is one such call of the heap, whose answer the status tells. Where no heap is open it does
-- nothing, with status 12.
abbrev pub IsInsisted : Option PacedState → Option PacedState → ℕ → Command → ℕ → Type 0
IsInsisted None new owner command status = (new ≡ None) × (status ≡ 12)
IsInsisted (Some old) new owner command status =
    (told : Result Reply Refusal) × (after : PacedState) × (new ≡ Some after)
    × IsInsistedCall old after owner command told × (status ≡ status_of told)
