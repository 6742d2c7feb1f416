use Rattle.std.proofs.Common.{rules}
use Rattle.rh_cycles.proofs.cycles.used_at_flip.Goals as goal

pub returns : goal.returns
returns g c = search rules
