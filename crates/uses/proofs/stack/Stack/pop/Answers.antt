use Rattle.std.proofs.Common.{sym, ◌∙◌}
use Rattle.uses.proofs.StackCalls.{popped-none, popped-number, popped-some}
use Rattle.uses.proofs.stack.Stack.pop.Goals as goal

pub returns-then-is_some-clause-popped : goal.returns-then-is_some-clause-popped
returns-then-is_some-clause-popped g c = λ numbers stack.
    let some = sym c.is_some.ensures ∙ c.if-is_some.true in (
      popped-number _ _ c.peek.result c.peek.ensures.plain c.number_in-number.result c.number_in-number.ensures numbers stack,
      popped-some _ _ c.peek.result c.peek.ensures.plain c.number_in-number.result c.number_in-number.ensures some _ _ c.take_top.ensures.taken numbers stack,
    )

pub returns-else-is_some-clause-popped : goal.returns-else-is_some-clause-popped
returns-else-is_some-clause-popped g c = λ numbers stack.
    let none = sym c.is_some.ensures ∙ c.if-is_some.false in (
      popped-number _ _ c.peek.result c.peek.ensures.plain c.number_in-number.result c.number_in-number.ensures numbers stack,
      popped-none _ _ c.peek.result c.peek.ensures.plain c.number_in-number.result c.number_in-number.ensures none numbers stack,
    )
