use Rattle.std.proofs.Common.{arith}
use Rattle.std.proofs.lemmas.Result.{err_from_is_err_and}
use Rattle.uses.proofs.growing_list.push.Goals as goal

pub returns-in_err-call : goal.returns-in_err-call
returns-in_err-call g c = λ roomy.
    let p = err_from_is_err_and c.from_residual.result c.from_residual.ensures.1 in
    rw (p.1, p.2) (c.in_err-call.ensures.room 4 roomy (omega arith))

pub returns-in_err-call-2 : goal.returns-in_err-call-2
returns-in_err-call-2 g c = λ roomy.
    let p = err_from_is_err_and c.from_residual-in_err-call-2.result c.from_residual-in_err-call-2.ensures.1 in
    let made = (c.in_ok-call.ensures.room 4 roomy (omega arith)).0 in
    rw (p.1, p.2) (c.in_err-call-2.ensures.room 4 made (omega arith))

pub returns-in_err-call-3 : goal.returns-in_err-call-3
returns-in_err-call-3 g c = λ roomy.
    let p = err_from_is_err_and c.from_residual-in_err-call-3.result c.from_residual-in_err-call-3.ensures.1 in
    let made = (c.in_ok-call.ensures.room 4 roomy (omega arith)).0 in
    let filled = (c.in_ok-call-2.ensures.room 4 made (omega arith)).0 in
    rw (p.1, p.2) (c.in_err-call-3.ensures.room 4 filled (omega arith))

pub returns-in_err-call-4 : goal.returns-in_err-call-4
returns-in_err-call-4 g c = λ roomy.
    let p = err_from_is_err_and c.from_residual-in_err-call-4.result c.from_residual-in_err-call-4.ensures.1 in
    let made = (c.in_ok-call.ensures.room 4 roomy (omega arith)).0 in
    let filled = (c.in_ok-call-2.ensures.room 4 made (omega arith)).0 in
    let linked = (c.in_ok-call-3.ensures.room 4 filled (omega arith)).0 in
    rw (p.1, p.2) (c.in_err-call-4.ensures.room 4 linked (omega arith))

pub returns : goal.returns
returns g c = λ roomy.
    let made = (c.in_ok-call.ensures.room 4 roomy (omega arith)).0 in
    let filled = (c.in_ok-call-2.ensures.room 4 made (omega arith)).0 in
    let linked = (c.in_ok-call-3.ensures.room 4 filled (omega arith)).0 in
    let done = (c.in_ok-call-4.ensures.room 4 linked (omega arith)).0 in
    (done, tt)
