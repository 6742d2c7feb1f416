-- What a call of C's does that does an owner's command, by the state of the handle before and after
-- it. Where no heap is open it does nothing, with status 12.
use Rattle.std.specs.Prelude.{◌≡◌, ℕ, Option, Some, None, Result}
use Rattle.rh_layout.specs.declared.command.Command.{Command}
use Rattle.rh_layout.specs.declared.command.Command.TheVariants.{Load, Same}
use Rattle.rh_layout.specs.declared.command.RootId.{RootId}
use Rattle.rh_layout.specs.declared.command.Reply.{Reply}
use Rattle.rh_layout.specs.declared.refusal.Refusal.{Refusal}
use Rattle.rh_pace.specs.Paced.{PacedState}
use Rattle.rh_pace.specs.Calls.{IsPacedCall}
use Rattle.rheap_c.specs.declared.value.RheapValue.{RheapValue}
use Rattle.rheap_c.specs.Told.{status_of, no_value, told_value, same_told}

-- It is one call of the heap, whose answer the status tells.
abbrev pub IsDone : Option PacedState → Option PacedState → ℕ → Command → ℕ → Type 0
IsDone None new owner command status = (new ≡ None) × (status ≡ 12)
IsDone (Some old) new owner command status =
    (told : Result Reply Refusal) × (after : PacedState) × (new ≡ Some after)
    × IsPacedCall old after owner command told × (status ≡ status_of told)

-- It is one load, whose answer the status and the value tell.
abbrev pub IsLoaded : Option PacedState → Option PacedState → ℕ → RootId → RootId → ℕ → ℕ
    → RheapValue → Type 0
IsLoaded None new owner dst src field status value =
    (new ≡ None) × (status ≡ 12) × (value ≡ no_value)
IsLoaded (Some old) new owner dst src field status value =
    (told : Result Reply Refusal) × (after : PacedState) × (new ≡ Some after)
    × IsPacedCall old after owner (Load dst src field) told
    × (status ≡ status_of told) × (value ≡ told_value told)

-- It is one comparison, whose answer the status and the number tell.
abbrev pub IsCompared : Option PacedState → Option PacedState → ℕ → RootId → RootId → ℕ → ℕ → Type 0
IsCompared None new owner a b status same = (new ≡ None) × (status ≡ 12) × (same ≡ 0)
IsCompared (Some old) new owner a b status same =
    (told : Result Reply Refusal) × (after : PacedState) × (new ≡ Some after)
    × IsPacedCall old after owner (Same a b) told
    × (status ≡ status_of told) × (same ≡ same_told told)
