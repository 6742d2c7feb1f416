use Rattle.uses.proofs.StackCalls.{stack-below}
use Rattle.uses.proofs.stack.Stack.take_top.Goals as goal

pub returns-then-self-gt1-clause-taken : goal.returns-then-self-gt1-clause-taken
returns-then-self-gt1-clause-taken g c = λ number numbers stack. stack-below _ _ number numbers c.if-self-gt1.true stack

pub returns-else-self-gt1-clause-taken : goal.returns-else-self-gt1-clause-taken
returns-else-self-gt1-clause-taken g c = λ number numbers stack. c.leave_segment.ensures.left number numbers stack
