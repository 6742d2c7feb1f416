use Rattle.std.proofs.Common.{refl, codes}
use Rattle.rh_syntax.proofs.Begins.{joined, after_word}
use Rattle.rh_syntax.proofs.lines.leading.leading_load.Goals as goal

pub returns-in_err-dst : goal.returns-in_err-dst
returns-in_err-dst c = rw c.from_residual.ensures tt

pub returns-in_err-src : goal.returns-in_err-src
returns-in_err-src c = rw c.from_residual-in_err-src.ensures tt

pub returns-in_err-field : goal.returns-in_err-field
returns-in_err-field c = rw c.from_residual-in_err-field.ensures tt

pub returns : goal.returns
returns c =
    let is =
    joined 32 _ _ _ _ _ _ c.in_ok-dst.ensures.1 refl
    (joined 32 _ _ _ _ _ _ c.in_ok-src.ensures.1 refl c.in_ok-field.ensures.1) in
    ((c.ranges.owner.fits, c.in_ok-dst.ensures.0, c.in_ok-src.ensures.0, c.in_ok-field.ensures.0), after_word _ (codes " load ") _ _ _ is)
