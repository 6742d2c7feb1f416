-- Room on a heap that grows: who is refused it was told so before.
use Rattle.std.specs.Prelude.{◌≡◌, ◌≤◌, ◌⊎◌, ℕ, true, Result, Ok, Err, IsSome}
use Rattle.rh_layout.specs.declared.refusal.Refusal.{Refusal}
use Rattle.rh_pace.specs.Collecting.{wants_room}
use Rattle.rh_pace.specs.Reaching.{AreEpochsSpent}
use Rattle.rh_growing.specs.Growth.{FitsLog}
use Rattle.rh_growing.specs.Growing.{GrowingState, IsGrowingInTime}

-- A heap that grows has room for objects of so many words, unless it is short.
pub record IsRoomy (words : ℕ) (s : GrowingState) : Type 0 where
  pub in_time : IsGrowingInTime s
  pub biggest : words ≤ s.growth.biggest
  pub log : FitsLog s.growth

-- Who is refused room, in the space or in the log, is refused it where the heap says that it is
-- short, unless the epochs are spent.
abbrev pub IsToldShort : {X : Type 0} → GrowingState → Result X Refusal → Type 0
IsToldShort s (Ok x) = Unit {0}
IsToldShort s (Err why) =
    wants_room (Err why) ≡ true → IsSome s.short ⊎ AreEpochsSpent s.paced.heap
