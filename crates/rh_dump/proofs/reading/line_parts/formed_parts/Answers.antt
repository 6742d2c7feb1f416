use Rattle.std.proofs.Common.{rules}
use Rattle.rh_dump.specs.texts.Reading.{formed_parts}
use Rattle.rh_dump.proofs.reading.line_parts.formed_parts.Goals as goal

pub returns-then-is_formed : goal.returns-then-is_formed
unfolding formed_parts
returns-then-is_formed c = search rules

pub returns-else-is_formed : goal.returns-else-is_formed
unfolding formed_parts
returns-else-is_formed c = search rules
