use Rattle.std.proofs.Common.{rules}
use Rattle.rh_dump.specs.texts.Reading.{version_or_fault}
use Rattle.rh_dump.proofs.reading.line_reading.version_or_fault.Goals as goal

pub returns-then-is_text : goal.returns-then-is_text
unfolding version_or_fault
returns-then-is_text c = search rules
