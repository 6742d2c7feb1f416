use Rattle.std.proofs.Common.{refl, sym, ◌∙◌}
use Rattle.rheap_c.specs.ValueRows.{value_stores}
use Rattle.rheap_c.proofs.Lent.{open-held}
use Rattle.rheap_c.proofs.ValueRows.{closed-kinds, closed-row, lent-row, of-known, of-unknown}
use Rattle.rheap_c.proofs.fixed.value_rows.store_row.Goals as goal

pub returns-then-is_empty : goal.returns-then-is_empty
returns-then-is_empty c =
    closed-kinds _ _ _ refl _ _ (closed-row _ _ _ _ refl _ c.is_empty.ensures.empty c.if-is_empty.true c.is_empty.ensures.kept) _ c.is_empty.ensures.empty c.if-is_empty.true c.is_empty.ensures.kept

pub here-requires : goal.here-requires
here-requires c = open-held _ _ _ c.is_empty.ensures.empty c.if-is_empty.false c.is_empty.ensures.kept

pub returns-then-are_known : goal.returns-then-are_known
returns-then-are_known c =
    of-known _ (sym c.are_known.ensures ∙ c.if-are_known.true) _
    (lent-row _ _ _ c.is_empty.ensures.kept c.here.ensures.value _ _ _ (λ k. value_stores c.args.owner (c.id.ensures k) c.args.from c.args.values.now) _ _ c.stored.ensures) _ _ _ _

pub returns-else-are_known : goal.returns-else-are_known
returns-else-are_known c =
    of-unknown _ (sym c.are_known.ensures ∙ c.if-are_known.false) _ _ _ _ c.is_empty.ensures.empty c.if-is_empty.false c.is_empty.ensures.kept _ refl
