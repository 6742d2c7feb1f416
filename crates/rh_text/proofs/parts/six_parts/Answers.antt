use Rattle.std.proofs.Common.{Some, None}
use Rattle.rh_text.specs.Parts.{parts_left}
use Rattle.rh_text.proofs.FirstThree.{six-too_few, six-then}
use Rattle.rh_text.proofs.parts.six_parts.Goals as goal

pub returns-in_err-first : goal.returns-in_err-first
returns-in_err-first c = rw c.from_residual.ensures (six-too_few (parts_left c.args.rest) c.in_err-first.ensures)

pub returns-in_err-fourth : goal.returns-in_err-fourth
returns-in_err-fourth c =
    rw c.from_residual-in_err-fourth.ensures (
    six-then (parts_left c.args.rest) c.in_ok-first.first.now c.in_ok-first.second.now c.in_ok-first.third.now (parts_left c.in_ok-first.rest) None
    c.in_ok-first.ensures c.in_err-fourth.ensures
    )

pub returns : goal.returns
returns c =
    six-then (parts_left c.args.rest) c.in_ok-first.first.now c.in_ok-first.second.now c.in_ok-first.third.now (parts_left c.in_ok-first.rest)
    (Some (c.in_ok-fourth.fourth.now, c.in_ok-fourth.fifth.now, c.in_ok-fourth.sixth.now))
    c.in_ok-first.ensures c.in_ok-fourth.ensures
