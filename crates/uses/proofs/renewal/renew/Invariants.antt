use Rattle.std.proofs.Common.{◌-◌}
use Rattle.uses.specs.Renewal.{Renews}
use Rattle.uses.proofs.renewal.renew.Given as goal

-- the heap serves those that are left
abbrev pub invariant-loop : goal.invariant-loop
invariant-loop g l = Renews l.rounds l.fn.heap → Renews (l.rounds - l.counter) l.heap
