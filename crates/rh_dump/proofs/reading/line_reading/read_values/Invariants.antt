use Rattle.std.proofs.Common.{◌≡◌, length}
use Rattle.rh_text.specs.Parts.{parts_left}
use Rattle.rh_dump.specs.texts.Reading.{values_or_fault}
use Rattle.rh_dump.specs.texts.Putting.{put_values}
use Rattle.rh_dump.proofs.reading.line_reading.read_values.Given as goal

abbrev pub invariant-loop-part : goal.invariant-loop-part
invariant-loop-part g l = put_values l.builder l.met (values_or_fault l.raw l.count l.met (parts_left l.left)) ≡ put_values l.fn.builder l.met_before (values_or_fault l.raw l.count l.met_before (parts_left l.rest))

abbrev pub decreases-loop-part : goal.decreases-loop-part
decreases-loop-part g l = length (parts_left l.left)
