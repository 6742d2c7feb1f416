-- What can go wrong in these programs.
use Rattle.rh_pace.specs.declared.errors.SizesError.{SizesError}
use Rattle.rh_pace.specs.declared.errors.SizesError.TheVariants as sizes_errors
use Rattle.uses.specs.declared.problem.Problem.{Problem}
use Rattle.uses.specs.declared.problem.Problem.TheVariants.{Heap, Pace}

-- the problem where no heap of some sizes was made
abbrev pub problem_of_sizes : SizesError → Problem
problem_of_sizes (sizes_errors.Pace error) = Pace error
problem_of_sizes (sizes_errors.Heap error) = Heap error
