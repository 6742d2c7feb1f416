use Rattle.std.proofs.Common.{refl}
use Rattle.rh_layout.specs.declared.command.Command.TheVariants.{Raw}
use Rattle.rheap_c.proofs.Lent.{again-done, closed-done, kept-done, lent-done, open-held}
use Rattle.rheap_c.proofs.fixed.objects.alloc_raw.Goals as goal

pub returns-then-is_empty : goal.returns-then-is_empty
returns-then-is_empty c = closed-done _ _ _ c.is_empty.ensures.empty c.if-is_empty.true c.is_empty.ensures.kept _ _

pub returns-then-fields-gt-MAX_FIELDS : goal.returns-then-fields-gt-MAX_FIELDS
returns-then-fields-gt-MAX_FIELDS c = kept-done _ _ c.is_empty.ensures.kept _ _ _ _ (rw (c.of.ensures) at c.alloc_raw_at_length.ensures)

pub here-requires : goal.here-requires
here-requires c = open-held _ _ _ c.is_empty.ensures.empty c.if-is_empty.false c.is_empty.ensures.kept

pub returns-in-Some : goal.returns-in-Some
returns-in-Some c = lent-done _ _ _ c.is_empty.ensures.kept c.here.ensures.value _ _ _ _ c.in-Some.ensures.done _ refl _ (λ k. Raw (c.id.ensures k) c.args.fields)

pub returns-in-None : goal.returns-in-None
returns-in-None c = again-done _ _ _ c.is_empty.ensures.kept c.here.ensures.value _ c.in-None.ensures.nothing _ _ _ _ (rw (c.of-in-None.ensures) at c.alloc_raw_at_length-in-None.ensures)
