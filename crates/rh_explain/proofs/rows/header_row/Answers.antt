use Rattle.std.proofs.Common.{refl}
use Rattle.rh_explain.proofs.rows.header_row.Goals as goal

pub returns : goal.returns
returns c = refl
