use Rattle.std.proofs.Common.{◌≡◌, None, replicate}
use Rattle.uses.proofs.texts.no_texts.Given as goal

abbrev pub invariant-loop : goal.invariant-loop
invariant-loop g l = l.texts.items ≡ replicate l.counter None
