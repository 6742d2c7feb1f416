use Rattle.std.proofs.Common.{refl}
use Rattle.rh_explain.proofs.rows.owned_rows.Goals as goal

pub returns : goal.returns
returns c = refl
