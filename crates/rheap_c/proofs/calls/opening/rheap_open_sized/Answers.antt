use Rattle.std.proofs.Common.{refl}
use Rattle.rheap_c.proofs.Parts.{Opens-fixed, Opens-not_fixed}
use Rattle.rheap_c.proofs.calls.opening.rheap_open_sized.Goals as goal

pub returns-then-not-is_empty : goal.returns-then-not-is_empty
returns-then-not-is_empty c = Opens-not_fixed _ _ _ _ _ c.if-not-is_empty.ensures.empty refl c.is_empty.ensures.kept

pub returns : goal.returns
returns c = Opens-fixed _ _ _ _ _ _ _ c.if-not-is_empty.ensures.empty refl c.is_empty.ensures.kept c.open_sized.ensures
