use Rattle.std.proofs.Common.{rules}
use Rattle.rheap_c.proofs.fixed_part.FixedPart.give.Goals as goal

pub returns : goal.returns
returns c = search rules
