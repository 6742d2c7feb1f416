use Rattle.rh_layout.specs.declared.command.Command.TheVariants.{Alloc}
use Rattle.rheap_c.proofs.Lent.{again-insisted, closed-insisted, kept-insisted, lent-insisted, open-held}
use Rattle.rheap_c.proofs.fixed.insisting.insist_alloc.Goals as goal

pub returns-then-is_empty : goal.returns-then-is_empty
returns-then-is_empty c = closed-insisted _ _ _ c.is_empty.ensures.empty c.if-is_empty.true c.is_empty.ensures.kept _ _

pub returns-then-fields-gt-MAX_FIELDS : goal.returns-then-fields-gt-MAX_FIELDS
returns-then-fields-gt-MAX_FIELDS c = kept-insisted _ _ c.is_empty.ensures.kept _ _ _ _ (rw (c.of.ensures) at c.insist_alloc_at_length.ensures)

pub here-requires : goal.here-requires
here-requires c = open-held _ _ _ c.is_empty.ensures.empty c.if-is_empty.false c.is_empty.ensures.kept

pub returns-in-Some : goal.returns-in-Some
returns-in-Some c = lent-insisted _ _ _ c.is_empty.ensures.kept c.here.ensures.value _ _ _ _ c.in-Some.ensures.done _ (λ k. Alloc (c.id.ensures k) c.args.fields)

pub returns-in-None : goal.returns-in-None
returns-in-None c = again-insisted _ _ _ c.is_empty.ensures.kept c.here.ensures.value _ c.in-None.ensures.nothing _ _ _ _ (rw (c.of-in-None.ensures) at c.insist_alloc_at_length-in-None.ensures)
