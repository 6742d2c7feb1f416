use Rattle.std.proofs.Common.{refl, sym, ◌∙◌}
use Rattle.rheap_c.proofs.GrownRows.{closed-grown-row, kept-row}
use Rattle.rheap_c.proofs.ValueRows.{closed-kinds, of-known, of-unknown}
use Rattle.rheap_c.proofs.growing.value_rows.store_row.Goals as goal

pub returns-then-is_empty : goal.returns-then-is_empty
returns-then-is_empty c =
    closed-kinds _ _ _ refl _ _ (closed-grown-row _ _ _ _ refl _ c.is_empty.ensures.empty c.if-is_empty.true c.is_empty.ensures.kept) _ c.is_empty.ensures.empty c.if-is_empty.true c.is_empty.ensures.kept

pub returns-then-are_known : goal.returns-then-are_known
returns-then-are_known c =
    of-known _ (sym c.are_known.ensures ∙ c.if-are_known.true) _
    (kept-row _ _ _ c.is_empty.ensures.kept _ _ _ c.stored_row.ensures) _ _ _ _

pub returns-else-are_known : goal.returns-else-are_known
returns-else-are_known c =
    of-unknown _ (sym c.are_known.ensures ∙ c.if-are_known.false) _ _ _ _ c.is_empty.ensures.empty c.if-is_empty.false c.is_empty.ensures.kept _ refl
