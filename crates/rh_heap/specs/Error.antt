-- The error of a runtime.
use Rattle.rh_layout.specs.declared.memory.OutOfMemory.{OutOfMemory}
use Rattle.rh_growing.specs.declared.errors.GrowingError.{GrowingError}
use Rattle.rh_growing.specs.declared.errors.GrowingError.TheVariants as growing_errors
use Rattle.rh_pace.specs.declared.errors.SizesError.{SizesError}
use Rattle.rh_pace.specs.declared.errors.SizesError.TheVariants as sizes_errors
use Rattle.rh_heap.specs.declared.error.Error.{Error}
use Rattle.rh_heap.specs.declared.error.Error.TheVariants.{Pace, Heap, BadFactor, BadLimits}

-- what it says of why no heap of some sizes was made
abbrev pub error_of_sizes : SizesError → Error
error_of_sizes (sizes_errors.Pace why) = Pace why
error_of_sizes (sizes_errors.Heap why) = Heap why

-- what it says of why no heap that grows was made
abbrev pub error_of_growing : GrowingError → Error
error_of_growing growing_errors.BadFactor = BadFactor
error_of_growing growing_errors.BadLimits = BadLimits
error_of_growing (growing_errors.Pace why) = Pace why
error_of_growing (growing_errors.Heap why) = Heap why

-- memory was refused, which there is no more to say of
abbrev pub out_of_memory : OutOfMemory
out_of_memory = record {}
