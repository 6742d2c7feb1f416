use Rattle.std.proofs.Common.{take}
use Rattle.rh_shared.specs.Shares.{IsLeastStranger}
use Rattle.rh_shared.proofs.closing.least_stranger.Given as goal

abbrev pub invariant-loop-call : goal.invariant-loop-call
invariant-loop-call l = IsLeastStranger l.least l.owners (take l.call-index l.calls)
