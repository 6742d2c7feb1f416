use Rattle.std.proofs.Common.{refl, codes}
use Rattle.rh_syntax.proofs.Begins.{joined, after_word}
use Rattle.rh_syntax.proofs.lines.leading.leading_raw.Goals as goal

pub returns-in_err-dst : goal.returns-in_err-dst
returns-in_err-dst c = rw c.from_residual.ensures tt

pub returns-in_err-fields : goal.returns-in_err-fields
returns-in_err-fields c = rw c.from_residual-in_err-fields.ensures tt

pub returns : goal.returns
returns c =
    let is =
    joined 32 _ _ _ _ _ _ c.in_ok-dst.ensures.1 refl c.in_ok-fields.ensures.1 in
    ((c.ranges.owner.fits, c.in_ok-dst.ensures.0, c.in_ok-fields.ensures.0), after_word _ (codes " raw ") _ _ _ is)
