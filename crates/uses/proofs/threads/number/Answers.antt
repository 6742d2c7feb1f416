use Rattle.std.proofs.Common.{◌≡◌}
use Rattle.std.proofs.lemmas.Result.{err_from_is_err_and}
use Rattle.rh_layout.specs.declared.refusal.Refusal.TheVariants.{LogFull}
use Rattle.uses.proofs.NoLimit.{not_full}
use Rattle.uses.proofs.threads.number.Goals as goal

pub returns-in_err-n : goal.returns-in_err-n
returns-in_err-n c =
    let p = err_from_is_err_and c.from_residual.result c.from_residual.ensures.1 in
    rw (p.1, p.2) (λ is. let full : c.in_err-n.field-0.0 ≡ LogFull = cc in not_full c.what_changes_roots_alone_meets_no_limit.ensures _ _ _ _ c.in_err-n.ensures.answer tt full)
