use Rattle.std.proofs.Common.{rules}
use Rattle.rh_paced_trace.proofs.pacing.growth_of.Goals as goal

pub returns : goal.returns
returns c = search rules
