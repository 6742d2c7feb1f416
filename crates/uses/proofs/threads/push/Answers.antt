use Rattle.std.proofs.lemmas.Result.{err_from_is_err_and}
use Rattle.uses.proofs.NoLimit.{not_full}
use Rattle.uses.proofs.threads.push.Goals as goal

pub returns-in_err-copy : goal.returns-in_err-copy
returns-in_err-copy c =
    let p = err_from_is_err_and c.from_residual-in_err-copy.result c.from_residual-in_err-copy.ensures.1 in
    rw (p.1, p.2) (not_full c.what_changes_roots_alone_meets_no_limit.ensures _ _ _ _ c.in_err-copy.ensures.answer tt)
