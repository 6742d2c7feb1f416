use Rattle.std.proofs.lemmas.Result.{err_from_is_err_and}
use Rattle.rh_trace.proofs.EitherText.{less_or_empty, second_stopped}
use Rattle.rh_trace.proofs.both.BothListenerPair.end.Goals as goal

pub returns-in_err-end-clause-shown : goal.returns-in_err-end-clause-shown
returns-in_err-end-clause-shown g c =
    let p = err_from_is_err_and c.from_residual.result c.from_residual.ensures.1 in
    let L = g.L.Listener in
    let M = g.M.Listener in
    let self = c.args.self.now in
    let summary = c.args.summary.now in
    rw p.1 (second_stopped (L.closing (L.state self.first) summary) (M.closing (M.state self.second) summary) (L.contents c.args.out.now.first) (M.contents c.args.out.now.second) (M.contents c.end.new.out) c.in_err-end.ensures.shown)

pub returns-in_err-end-clause-cut : goal.returns-in_err-end-clause-cut
returns-in_err-end-clause-cut g c =
    let p = err_from_is_err_and c.from_residual.result c.from_residual.ensures.1 in
    let L = g.L.Listener in
    rw p.1 (less_or_empty (L.contents c.args.out.now.first L.lead) (L.closing (L.state c.args.self.now.first) c.args.summary.now L.lead))
