use Rattle.std.proofs.Common.{length}
use Rattle.rh_replay.proofs.Equals.{Stands}
use Rattle.rh_replay.proofs.reading.before_equals.Given as goal

abbrev pub invariant-loop-part : goal.invariant-loop-part
invariant-loop-part l = Stands l.line l.rest

abbrev pub decreases-loop-part : goal.decreases-loop-part
decreases-loop-part l = length l.rest
