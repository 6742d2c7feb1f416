use Rattle.std.proofs.Common.{rules}
use Rattle.rh_dump.specs.texts.Part.{whole_of}
use Rattle.rh_dump.proofs.reading.parts.whole_of.Goals as goal

pub returns-in_err-number : goal.returns-in_err-number
unfolding whole_of
returns-in_err-number c = search rules

pub returns-then-is_whole : goal.returns-then-is_whole
unfolding whole_of
returns-then-is_whole c = search rules

pub returns-else-is_whole : goal.returns-else-is_whole
unfolding whole_of
returns-else-is_whole c = search rules
