use Rattle.std.proofs.Common.{rules}
use Rattle.rh_engine.proofs.cycle_answers.put_given.Goals as goal

pub returns-clause-value : goal.returns-clause-value
returns-clause-value c = search rules
