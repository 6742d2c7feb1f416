use Rattle.std.proofs.Common.{rules}
use Rattle.rheap_c.proofs.fixed.opening.make.Goals as goal

pub returns-then-is_some-clause-fault : goal.returns-then-is_some-clause-fault
returns-then-is_some-clause-fault c = search rules
