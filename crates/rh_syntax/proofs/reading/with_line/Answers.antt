use Rattle.std.proofs.Common.{rules}
use Rattle.rh_syntax.proofs.reading.with_line.Goals as goal

pub returns-in-Err : goal.returns-in-Err
returns-in-Err c = search rules
