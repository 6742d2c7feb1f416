use Rattle.rh_layout.specs.declared.command.Command.TheVariants.{Copy}
use Rattle.rheap_c.proofs.Lent.{closed-done, lent-done, open-held}
use Rattle.rheap_c.proofs.fixed.shared.copy.Goals as goal

pub returns-then-is_empty : goal.returns-then-is_empty
returns-then-is_empty c = closed-done _ _ _ c.is_empty.ensures.empty c.if-is_empty.true c.is_empty.ensures.kept _ _

pub here-requires : goal.here-requires
here-requires c = open-held _ _ _ c.is_empty.ensures.empty c.if-is_empty.false c.is_empty.ensures.kept

pub returns : goal.returns
returns c = lent-done _ _ _ c.is_empty.ensures.kept c.here.ensures.value _ _ _ _ c.copy-told.ensures _ c.answer_status.ensures _ (λ k. Copy (c.shared.ensures k) (c.shared-2.ensures k))
