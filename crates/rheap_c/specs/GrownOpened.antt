-- How a heap that grows is opened, and closed, and what it tells of its growth.
use Rattle.std.specs.Prelude.{◌≡◌, ℕ, min, Option, Some, None, Result, Ok, Err}
use Rattle.rh_model.specs.Plain.{empty_plain}
use Rattle.rh_mutator.specs.Mutator.{StandsFor}
use Rattle.rh_core.specs.declared.errors.HeapError.TheVariants.{Config, OutOfMemory}
use Rattle.rh_growing.specs.declared.errors.GrowingError.{GrowingError}
use Rattle.rh_growing.specs.declared.errors.GrowingError.TheVariants.{BadFactor, BadLimits, Heap, Pace}
use Rattle.rh_growing.specs.declared.errors.Short.{Short}
use Rattle.rh_growing.specs.declared.errors.Short.TheVariants.{AtMost, Memory}
use Rattle.rh_growing.specs.declared.growth.Growth.{Growth}
use Rattle.rh_growing.specs.Growing.{GrowingState, IsGrowingInTime, growing_heap}
use Rattle.rh_growing.specs.Growth.{fault_of_growth}
use Rattle.rheap_c.specs.declared.growth.RheapGrowth.{RheapGrowth}

-- the growth to at most so many words, as `Growth::up_to`, but with these sizes
abbrev pub growth_with : ℕ → ℕ → ℕ → ℕ → ℕ → Growth
growth_with at_most biggest ratio owners slots = record {
  at_least = min 40000 at_most;
  at_most = at_most;
  factor = 200;
  biggest = biggest;
  ratio = ratio;
  owners = owners;
  slots = slots;
}

-- a growth as C has it
abbrev pub growth_of : RheapGrowth → Growth
growth_of g = record {
  at_least = g.at_least;
  at_most = g.at_most;
  factor = g.factor;
  biggest = g.biggest;
  ratio = g.ratio;
  owners = g.owners;
  slots = g.slots;
}

-- A new heap that grows so.
pub record IsNewGrowing (growth : Growth) (s : GrowingState) : Type 0 where
  pub made : s ≡ growing_heap growth
  -- nothing is wrong with the growth
  pub sound : fault_of_growth growth ≡ None
  -- it stands for the plain heap without objects, whose roots are all nil
  pub stands : StandsFor s.paced.heap.mutators (empty_plain growth.owners growth.slots)
  -- it collects in time, whatever lives
  pub in_time : IsGrowingInTime s

-- why a making ends with none: for a fault of the growth, or it has none and memory was refused
abbrev pub MakesNoGrowing : Growth → GrowingError → Type 0
MakesNoGrowing growth (Heap OutOfMemory) = fault_of_growth growth ≡ None
MakesNoGrowing growth why = fault_of_growth growth ≡ Some why

-- how it ends: with a new heap, or with none
abbrev pub MakesGrowing : Growth → Result GrowingState GrowingError → Type 0
MakesGrowing growth (Ok s) = IsNewGrowing growth s
MakesGrowing growth (Err why) = MakesNoGrowing growth why

-- the status where no heap was opened: 21 for a factor or limits out of their ranges
abbrev pub status_of_growing_error : GrowingError → ℕ
status_of_growing_error BadFactor = 21
status_of_growing_error BadLimits = 21
status_of_growing_error (Pace why) = 14
status_of_growing_error (Heap (Config why)) = 15
status_of_growing_error (Heap OutOfMemory) = 16

-- the status of such an end, and what the handle holds then
abbrev pub growing_open_status : Result GrowingState GrowingError → ℕ
growing_open_status (Ok s) = 0
growing_open_status (Err why) = status_of_growing_error why

abbrev pub growing_opened : Result GrowingState GrowingError → Option GrowingState
growing_opened (Ok s) = Some s
growing_opened (Err why) = None

-- A call that opens a heap that grows: nothing, with status 13, where one is open.
abbrev pub IsGrowingOpened : Growth → Option GrowingState → Option GrowingState → ℕ → Type 0
IsGrowingOpened growth (Some old) new status = (new ≡ Some old) × (status ≡ 13)
IsGrowingOpened growth None new status =
    (end : Result GrowingState GrowingError) × MakesGrowing growth end
    × (new ≡ growing_opened end) × (status ≡ growing_open_status end)

-- A call that closes one: nothing, with status 12, where none is open.
abbrev pub IsGrowingClosed : Option GrowingState → Option GrowingState → ℕ → Type 0
IsGrowingClosed None new status = (new ≡ None) × (status ≡ 12)
IsGrowingClosed (Some old) new status = (new ≡ None) × (status ≡ 0)

-- whether it has too few words since the last flip: 0 for no, 1 where it may have no more, and 2
-- where memory for more was refused
abbrev pub short_code : Option Short → ℕ
short_code None = 0
short_code (Some AtMost) = 1
short_code (Some Memory) = 2

-- A call that tells that, and changes nothing.
abbrev pub IsShortTold : Option GrowingState → Option GrowingState → ℕ → ℕ → Type 0
IsShortTold None new status is = (new ≡ None) × (status ≡ 12) × (is ≡ 0)
IsShortTold (Some s) new status is =
    (new ≡ Some s) × (status ≡ 0) × (is ≡ short_code s.short)
