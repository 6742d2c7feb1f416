use Rattle.std.proofs.Common.{codes}
use Rattle.rh_syntax.proofs.Begins.{after_word}
use Rattle.rh_syntax.proofs.lines.leading.leading_drop.Goals as goal

pub returns-in_err-root : goal.returns-in_err-root
returns-in_err-root c = rw c.from_residual.ensures tt

pub returns : goal.returns
returns c =
    let is =
    c.in_ok-root.ensures.1 in
    ((c.ranges.owner.fits, c.in_ok-root.ensures.0), after_word _ (codes " drop ") _ _ _ is)
