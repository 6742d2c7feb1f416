use Rattle.std.proofs.Common.{rules}
use Rattle.rheap_c.proofs.growing_part.GrowingPart.give.Goals as goal

pub returns : goal.returns
returns c = search rules
