use Rattle.rh_layout.specs.declared.command.Command.TheVariants.{Store}
use Rattle.rh_layout.specs.declared.command.Operand.TheVariants.{Root}
use Rattle.rheap_c.proofs.Lent.{again-insisted, closed-insisted, lent-insisted, open-held}
use Rattle.rheap_c.proofs.fixed.insisting.insist_store_root.Goals as goal

pub returns-then-is_empty : goal.returns-then-is_empty
returns-then-is_empty c = closed-insisted _ _ _ c.is_empty.ensures.empty c.if-is_empty.true c.is_empty.ensures.kept _ _

pub here-requires : goal.here-requires
here-requires c = open-held _ _ _ c.is_empty.ensures.empty c.if-is_empty.false c.is_empty.ensures.kept

pub returns-in-Some : goal.returns-in-Some
returns-in-Some c = lent-insisted _ _ _ c.is_empty.ensures.kept c.here.ensures.value _ _ _ _ c.in-Some.ensures.done _ (λ k. Store (c.id.ensures k) c.args.field (Root (c.id-2.ensures k)))

pub returns-in-None : goal.returns-in-None
returns-in-None c = again-insisted _ _ _ c.is_empty.ensures.kept c.here.ensures.value _ c.in-None.ensures.nothing _ _ _ _ (rw (c.of.ensures, c.of-in-None.ensures) at c.insist_store_root_at_length.ensures)
