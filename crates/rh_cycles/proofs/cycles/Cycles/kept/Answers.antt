use Rattle.std.proofs.Common.{rules}
use Rattle.rh_cycles.proofs.cycles.Cycles.kept.Goals as goal

pub returns : goal.returns
returns c = search rules
