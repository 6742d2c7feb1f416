use Rattle.std.proofs.lemmas.Result.{err_from_is_err_and}
use Rattle.uses.proofs.growing_list.push_all.Goals as goal

pub loop-n-init : goal.loop-n-init
loop-n-init g c = λ roomy. roomy

pub returns-in_err-push : goal.returns-in_err-push
returns-in_err-push g c = λ roomy.
    let p = err_from_is_err_and c.from_residual.result c.from_residual.ensures.1 in
    rw (p.1, p.2) (c.in_err-push.ensures (c.loop-n.invariant roomy)).1

pub loop-n-preserved : goal.loop-n-preserved
loop-n-preserved g c = λ roomy. (c.in_ok-push.ensures (c.loop-n.invariant roomy)).0

pub returns : goal.returns
returns g c = λ roomy. tt
