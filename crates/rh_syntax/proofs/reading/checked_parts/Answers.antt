use Rattle.std.proofs.Common.{rules}
use Rattle.rh_syntax.specs.Reading.{checked_parts}
use Rattle.rh_syntax.proofs.reading.checked_parts.Goals as goal

pub returns-then-not-ended : goal.returns-then-not-ended
unfolding checked_parts
returns-then-not-ended c = search rules
