use Rattle.std.proofs.lemmas.Result.{err_from_is_err_and}
use Rattle.rh_trace_views.proofs.cycle_lines.CycleLinesListener.begin.Goals as goal

pub returns-in_err-send-clause-shown : goal.returns-in_err-send-clause-shown
returns-in_err-send-clause-shown g c = λ w.
    let p = err_from_is_err_and c.from_residual.result c.from_residual.ensures.1 in
    let cut = c.in_err-send.ensures.err in
    rw p.1 (cut.0, cut.1, cut.2, cut.4)
