use Rattle.std.proofs.Common.{◌++◌, ◌-◌, ℕ, List}
use Rattle.rh_layout.specs.declared.command.Command.{Command}
use Rattle.rh_pace.specs.Paced.{PacedState}
use Rattle.rh_pace.specs.Worked.{one_joins, one_leaves, times}
use Rattle.uses.specs.Queue.{LeadTo}
use Rattle.uses.proofs.queue.turn.Given as goal

-- the turns that are left, and the rest, lead to where all do
abbrev pub invariant-loop : goal.invariant-loop
invariant-loop g l =
    (rest : List (ℕ × Command)) (last : PacedState) → LeadTo l.fn.heap (times l.rounds (one_joins ++ one_leaves) ++ rest) last → LeadTo l.heap (times (l.rounds - l.counter) (one_joins ++ one_leaves) ++ rest) last
