use Rattle.std.proofs.Common.{◌++◌, ◌-◌, ℕ, List}
use Rattle.rh_layout.specs.declared.command.Command.{Command}
use Rattle.rh_pace.specs.Paced.{PacedState}
use Rattle.rh_pace.specs.Worked.{one_joins, times}
use Rattle.uses.specs.Queue.{LeadTo}
use Rattle.uses.proofs.queue.fill.Given as goal

-- those that still join, and the rest, lead to where all do
abbrev pub invariant-loop : goal.invariant-loop
invariant-loop g l =
    (rest : List (ℕ × Command)) (last : PacedState) → LeadTo l.fn.heap (times 248 one_joins ++ rest) last → LeadTo l.heap (times (248 - l.counter) one_joins ++ rest) last
