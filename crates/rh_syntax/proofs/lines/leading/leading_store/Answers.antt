use Rattle.std.proofs.Common.{refl, codes}
use Rattle.rh_syntax.proofs.Begins.{joined, after_word}
use Rattle.rh_syntax.proofs.lines.leading.leading_store.Goals as goal

pub returns-in_err-obj : goal.returns-in_err-obj
returns-in_err-obj c = rw c.from_residual.ensures tt

pub returns-in_err-field : goal.returns-in_err-field
returns-in_err-field c = rw c.from_residual-in_err-field.ensures tt

pub returns-in_err-rest : goal.returns-in_err-rest
returns-in_err-rest c = rw c.from_residual-in_err-rest.ensures tt

pub returns-in_err-operand : goal.returns-in_err-operand
returns-in_err-operand c = rw c.from_residual-in_err-operand.ensures tt

pub returns : goal.returns
returns c =
    let is =
    joined 32 _ _ _ _ _ _ c.in_ok-obj.ensures.1 refl
    (joined 32 _ _ _ _ _ _ c.in_ok-field.ensures.1 c.in_ok-rest.ensures c.in_ok-operand.ensures.1) in
    ((c.ranges.owner.fits, c.in_ok-obj.ensures.0, c.in_ok-field.ensures.0, c.in_ok-operand.ensures.0), after_word _ (codes " store ") _ _ _ is)
