use Rattle.std.proofs.Common.{rules}
use Rattle.rh_engine.proofs.engine.fold_dealt.Goals as goal

pub returns-clause-counts : goal.returns-clause-counts
returns-clause-counts c = search rules
