use Rattle.std.proofs.Common.{refl}
use Rattle.rheap_c.proofs.Parts.{Calls-fixed, Calls-growing}
use Rattle.rheap_c.proofs.calls.insisting.rheap_insist_alloc.Goals as goal

pub returns-then-is_empty : goal.returns-then-is_empty
returns-then-is_empty c = Calls-growing _ _ _ _ _ _ _ c.is_empty.ensures.empty c.if-is_empty.true c.is_empty.ensures.kept (rw (c.of.ensures) at c.insist_alloc.ensures)

pub returns : goal.returns
returns c = Calls-fixed _ _ _ _ _ _ _ _ c.is_empty.ensures.empty c.if-is_empty.false c.is_empty.ensures.kept c.insist_alloc-2.ensures refl
