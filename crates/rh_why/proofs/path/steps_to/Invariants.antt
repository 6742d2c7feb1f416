use Rattle.std.proofs.Common.{◌≡◌, ◌-◌, ◌++◌, length}
use Rattle.rh_why.specs.Path.{steps_to}
use Rattle.rh_why.proofs.path.steps_to.Given as goal

abbrev pub invariant-loop : goal.invariant-loop
invariant-loop g l = l.steps.items ++ steps_to (length l.holders - l.counter) l.holders l.to ≡ steps_to (length l.holders) l.holders l.object
