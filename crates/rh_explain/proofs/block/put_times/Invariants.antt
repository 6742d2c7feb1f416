use Rattle.std.proofs.Common.{◌≡◌, ◌++◌, replicate}
use Rattle.rh_explain.proofs.block.put_times.Given as goal

abbrev pub invariant-loop : goal.invariant-loop
invariant-loop l = l.text ≡ l.fn.text ++ replicate l.counter l.byte
