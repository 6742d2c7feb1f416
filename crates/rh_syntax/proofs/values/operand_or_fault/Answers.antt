use Rattle.std.proofs.Common.{rules}
use Rattle.rh_syntax.specs.Reading.{operand_or_fault}
use Rattle.rh_syntax.proofs.values.operand_or_fault.Goals as goal

pub returns-then-is_text : goal.returns-then-is_text
unfolding operand_or_fault
returns-then-is_text c = search rules
