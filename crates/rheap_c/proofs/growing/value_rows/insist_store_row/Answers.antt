use Rattle.std.proofs.Common.{refl, sym, ◌∙◌}
use Rattle.rheap_c.proofs.GrownRows.{closed-grown-insisted-row, kept-insisted-row}
use Rattle.rheap_c.proofs.ValueRows.{closed-kinds, of-known, of-unknown}
use Rattle.rheap_c.proofs.growing.value_rows.insist_store_row.Goals as goal

pub returns-then-is_empty-clause-row : goal.returns-then-is_empty-clause-row
returns-then-is_empty-clause-row c =
    closed-kinds _ _ _ refl _ _ (closed-grown-insisted-row _ _ _ _ refl _ c.is_empty.ensures.empty c.if-is_empty.true c.is_empty.ensures.kept) _ c.is_empty.ensures.empty c.if-is_empty.true c.is_empty.ensures.kept

pub returns-then-are_known-clause-row : goal.returns-then-are_known-clause-row
returns-then-are_known-clause-row c =
    of-known _ (sym c.are_known.ensures ∙ c.if-are_known.true) _
    (kept-insisted-row _ _ _ c.is_empty.ensures.kept _ _ _ c.insisted_row.ensures.row) _ _ _ _

pub returns-else-are_known-clause-row : goal.returns-else-are_known-clause-row
returns-else-are_known-clause-row c =
    of-unknown _ (sym c.are_known.ensures ∙ c.if-are_known.false) _ _ _ _ c.is_empty.ensures.empty c.if-is_empty.false c.is_empty.ensures.kept _ refl
