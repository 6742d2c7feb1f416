use Rattle.std.proofs.Common.{rules}
use Rattle.rh_syntax.proofs.command_answers.put_refusal.Goals as goal

pub returns-in-SpaceFull-clause-value : goal.returns-in-SpaceFull-clause-value
returns-in-SpaceFull-clause-value c = search rules
