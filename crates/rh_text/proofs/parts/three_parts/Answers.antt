use Rattle.std.proofs.Common.{Some, None}
use Rattle.rh_text.specs.Parts.{parts_left}
use Rattle.rh_text.proofs.FirstThree.{three-too_few, three-then}
use Rattle.rh_text.proofs.parts.three_parts.Goals as goal

pub returns-in_err-first : goal.returns-in_err-first
returns-in_err-first c = rw c.from_residual.ensures (three-too_few (parts_left c.args.rest) c.in_err-first.ensures)

pub returns-in_err-end : goal.returns-in_err-end
returns-in_err-end c =
    rw c.from_residual-in_err-end.ensures (
    three-then (parts_left c.args.rest) c.in_ok-first.first.now c.in_ok-first.second.now c.in_ok-first.third.now (parts_left c.in_ok-first.rest) None
    c.in_ok-first.ensures c.in_err-end.ensures
    )

pub returns : goal.returns
returns c =
    three-then (parts_left c.args.rest) c.in_ok-first.first.now c.in_ok-first.second.now c.in_ok-first.third.now (parts_left c.in_ok-first.rest) (Some tt)
    c.in_ok-first.ensures c.in_ok-end.ensures
