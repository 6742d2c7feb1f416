-- How a heap is opened.
use Rattle.std.specs.Prelude.{◌≡◌, ◌⊎◌, ℕ, Option, Some, None, Result, Ok, Err, IsSome}
use Rattle.rh_model.specs.Plain.{empty_plain}
use Rattle.rh_mutator.specs.declared.config.Config.{Config}
use Rattle.rh_mutator.specs.Config.{fault_of}
use Rattle.rh_mutator.specs.Mutator.{StandsFor}
use Rattle.rh_core.specs.Heap.{new_heap}
use Rattle.rh_pace.specs.declared.pace.Pace.{Pace}
use Rattle.rh_pace.specs.InTime.{IsInTime}
use Rattle.rh_pace.specs.Pace.{AsksForLog, IsLowest, IsLowestFilling, KeepsUp, words_left}
use Rattle.rh_pace.specs.Paced.{PacedState, paced_heap}
use Rattle.rheap_c.specs.declared.open_fault.OpenFault.{OpenFault}
use Rattle.rheap_c.specs.declared.open_fault.OpenFault.TheVariants.{NoPace, BadSizes, NoMemory}

-- what a heap at this pace is made with
abbrev pub config_at : Pace → ℕ → ℕ → ℕ → ℕ → Config
config_at pace words ratio owners slots = record {
  words = words;
  ratio = ratio;
  owners = owners;
  slots = slots;
  log_limit = pace.log_limit;
  last_number = 4611686018427387904;
  last_epoch = 4611686018427387904;
}

-- A new heap at a pace.
pub record IsNew (config : Config) (pace : Pace) (s : PacedState) : Type 0 where
  pub made : s ≡ paced_heap (new_heap config) pace
  -- no size is out of its range
  pub sound : fault_of config ≡ None
  -- it stands for the plain heap without objects, whose roots are all nil
  pub stands : StandsFor s.heap.mutators (empty_plain config.owners config.slots)
  -- it collects in time, where the pace keeps up
  pub in_time : (live biggest : ℕ) → KeepsUp config.words live biggest config.ratio pace
      → IsInTime live biggest s

-- why a making ends with none: a size is out of its range, or none is and memory was refused
abbrev pub MakesNone : Config → OpenFault → Type 0
MakesNone config NoPace = ⊥
MakesNone config BadSizes = IsSome (fault_of config)
MakesNone config NoMemory = fault_of config ≡ None

-- how the making of a heap at a pace ends: with a new one, or with none
abbrev pub MakesAt : Config → Pace → Result PacedState OpenFault → Type 0
MakesAt config pace (Ok s) = IsNew config pace s
MakesAt config pace (Err why) = MakesNone config why

-- How an open ends that asks for a pace: with no pace exactly where there can be none, and else as a
-- making at a pace that fits.
abbrev pub Opens : (Pace → Type 0) → Type 0 → (Pace → Config) → Result PacedState OpenFault → Type 0
Opens Fits can config end =
    ((end ≡ Err NoPace) × ¬ can)
    ⊎ (can × (pace : Pace) × Fits pace × MakesAt (config pace) pace end)

-- the pace with the lowest mark that keeps up with so many live words, and a log for its lag
abbrev pub IsPaceFor : ℕ → ℕ → ℕ → ℕ → Pace → Type 0
IsPaceFor words live biggest ratio pace =
    KeepsUp words live biggest ratio pace × IsLowest words live biggest ratio pace
    × AsksForLog biggest pace

-- the pace with the lowest mark that keeps up with all that it leaves, and a log for its lag
abbrev pub IsFillingPace : ℕ → ℕ → ℕ → Pace → Type 0
IsFillingPace words biggest ratio pace =
    KeepsUp words (words_left words pace) biggest ratio pace
    × IsLowestFilling words biggest ratio pace × AsksForLog biggest pace

-- the status where no heap was opened
abbrev pub status_of_fault : OpenFault → ℕ
status_of_fault NoPace = 14
status_of_fault BadSizes = 15
status_of_fault NoMemory = 16

-- the status of such an end
abbrev pub open_status : Result PacedState OpenFault → ℕ
open_status (Ok s) = 0
open_status (Err why) = status_of_fault why

-- what the handle holds then
abbrev pub opened : Result PacedState OpenFault → Option PacedState
opened (Ok s) = Some s
opened (Err why) = None

-- the handle and the status after a making at a pace
abbrev pub OpensAt : Config → Pace → Option PacedState → ℕ → Type 0
OpensAt config pace new status =
    (end : Result PacedState OpenFault) × MakesAt config pace end × (new ≡ opened end)
    × (status ≡ open_status end)

-- A call that opens a heap: nothing, with status 13, where one is open.
abbrev pub IsOpened : (Result PacedState OpenFault → Type 0) → Option PacedState
    → Option PacedState → ℕ → Type 0
IsOpened Ends (Some old) new status = (new ≡ Some old) × (status ≡ 13)
IsOpened Ends None new status =
    (end : Result PacedState OpenFault) × Ends end × (new ≡ opened end)
    × (status ≡ open_status end)

-- A call that closes a heap: nothing, with status 12, where none is open.
abbrev pub IsClosed : Option PacedState → Option PacedState → ℕ → Type 0
IsClosed None new status = (new ≡ None) × (status ≡ 12)
IsClosed (Some old) new status = (new ≡ None) × (status ≡ 0)
