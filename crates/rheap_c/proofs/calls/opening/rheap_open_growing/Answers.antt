use Rattle.std.proofs.Common.{refl, subst}
use Rattle.rh_growing.specs.declared.growth.Growth.{Growth}
use Rattle.rheap_c.specs.GrownOpened.{IsGrowingOpened}
use Rattle.rheap_c.proofs.Parts.{Opens-growing, Opens-not_growing}
use Rattle.rheap_c.proofs.calls.opening.rheap_open_growing.Goals as goal

pub returns-then-not-is_empty : goal.returns-then-not-is_empty
returns-then-not-is_empty c = Opens-not_growing _ _ _ _ _ c.if-not-is_empty.ensures.empty refl c.is_empty.ensures.kept

pub returns : goal.returns
returns c = Opens-growing _ _ _ _ _ _ _ c.if-not-is_empty.ensures.empty refl c.is_empty.ensures.kept
    (subst (λ (g : Growth). IsGrowingOpened g c.args.heap.now.growing.state c.open.new.heap.state c.open.result) c.growth_with-growth.ensures c.open.ensures)
