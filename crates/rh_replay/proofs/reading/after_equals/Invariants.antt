use Rattle.std.proofs.Common.{◌≡◌, length}
use Rattle.rh_text.specs.Parts.{parts_of}
use Rattle.rh_replay.specs.Reading.{after_equals}
use Rattle.rh_replay.proofs.reading.after_equals.Given as goal

abbrev pub invariant-loop-part : goal.invariant-loop-part
invariant-loop-part l = after_equals (parts_of l.rest) ≡ after_equals (parts_of l.line)

abbrev pub decreases-loop-part : goal.decreases-loop-part
decreases-loop-part l = length l.rest
