use Rattle.std.proofs.Common.{rules}
use Rattle.rheap_c.proofs.fixed.reading.counted.Goals as goal

pub returns-in-Ok-Object : goal.returns-in-Ok-Object
returns-in-Ok-Object c = search rules
