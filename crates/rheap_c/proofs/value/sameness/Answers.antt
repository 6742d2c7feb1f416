use Rattle.std.proofs.Common.{rules}
use Rattle.rheap_c.proofs.value.sameness.Goals as goal

pub returns-in-Ok-Same-true : goal.returns-in-Ok-Same-true
returns-in-Ok-Same-true c = search rules
