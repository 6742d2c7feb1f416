use Rattle.std.proofs.Common.{rules}
use Rattle.rheap_c.proofs.status.answer_status.Goals as goal

pub returns-in-Err : goal.returns-in-Err
returns-in-Err c = search rules
