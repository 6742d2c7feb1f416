use Rattle.std.proofs.Common.{refl, codes}
use Rattle.rh_syntax.proofs.Begins.{joined, after_word}
use Rattle.rh_syntax.proofs.lines.leading.leading_same.Goals as goal

pub returns-in_err-a : goal.returns-in_err-a
returns-in_err-a c = rw c.from_residual.ensures tt

pub returns-in_err-b : goal.returns-in_err-b
returns-in_err-b c = rw c.from_residual-in_err-b.ensures tt

pub returns : goal.returns
returns c =
    let is =
    joined 32 _ _ _ _ _ _ c.in_ok-a.ensures.1 refl c.in_ok-b.ensures.1 in
    ((c.ranges.owner.fits, c.in_ok-a.ensures.0, c.in_ok-b.ensures.0), after_word _ (codes " same ") _ _ _ is)
