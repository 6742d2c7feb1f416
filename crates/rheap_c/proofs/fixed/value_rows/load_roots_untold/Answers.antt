use Rattle.std.proofs.Common.{refl}
use Rattle.rheap_c.specs.RootRows.{row_loads}
use Rattle.rheap_c.proofs.Lent.{open-held}
use Rattle.rheap_c.proofs.ValueRows.{closed-row, lent-row}
use Rattle.rheap_c.proofs.fixed.value_rows.load_roots_untold.Goals as goal

pub returns-then-is_empty : goal.returns-then-is_empty
returns-then-is_empty c = closed-row _ _ _ _ refl _ c.is_empty.ensures.empty c.if-is_empty.true c.is_empty.ensures.kept

pub here-inner-requires : goal.here-inner-requires
here-inner-requires c = open-held _ _ _ c.is_empty.ensures.empty c.if-is_empty.false c.is_empty.ensures.kept

pub returns : goal.returns
returns c = lent-row _ _ _ c.is_empty.ensures.kept c.here-inner.ensures.value _ _ _ (λ k. row_loads c.args.owner (c.id.ensures k) (c.id-2.ensures k) c.args.from c.args.length) _ _ c.loaded.ensures
