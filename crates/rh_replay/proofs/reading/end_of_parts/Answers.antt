use Rattle.std.proofs.Common.{rules}
use Rattle.rh_replay.specs.Reading.{end_of_parts}
use Rattle.rh_replay.proofs.reading.end_of_parts.Goals as goal

pub returns-then-from : goal.returns-then-from
unfolding end_of_parts
returns-then-from c = search rules
