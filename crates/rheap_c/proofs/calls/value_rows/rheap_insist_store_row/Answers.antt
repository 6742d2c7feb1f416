use Rattle.std.proofs.Common.{refl}
use Rattle.rheap_c.proofs.Parts.{Calls-fixed, Calls-growing}
use Rattle.rheap_c.proofs.calls.value_rows.rheap_insist_store_row.Goals as goal

pub returns-then-is_empty-clause-row : goal.returns-then-is_empty-clause-row
returns-then-is_empty-clause-row c = Calls-growing _ _ _ _ _ _ _ c.is_empty.ensures.empty c.if-is_empty.true c.is_empty.ensures.kept c.insist_store_row.ensures.row

pub returns-clause-row : goal.returns-clause-row
returns-clause-row c = Calls-fixed _ _ _ _ _ _ _ _ c.is_empty.ensures.empty c.if-is_empty.false c.is_empty.ensures.kept c.insist_store_row-2.ensures.row refl
