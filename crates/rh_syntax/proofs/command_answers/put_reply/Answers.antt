use Rattle.std.proofs.Common.{rules}
use Rattle.rh_syntax.proofs.command_answers.put_reply.Goals as goal

pub returns-in-Raw-clause-value : goal.returns-in-Raw-clause-value
returns-in-Raw-clause-value c = search rules
