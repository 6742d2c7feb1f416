use Rattle.std.proofs.lemmas.Result.{err_from_is_err_and}
use Rattle.rh_trace.specs.Answering.{answered_of}
use Rattle.rh_trace.specs.Lines.{seen_of}
use Rattle.rh_trace.proofs.EitherText.{first_stopped, second_shown}
use Rattle.rh_trace.proofs.both.BothListenerPair.line.Goals as goal

pub returns-in_err-line-clause-shown : goal.returns-in_err-line-clause-shown
returns-in_err-line-clause-shown g c =
    let p = err_from_is_err_and c.from_residual.result c.from_residual.ensures.1 in
    let L = g.L.Listener in
    let M = g.M.Listener in
    let P = g.P.Player in
    let s = c.args.player.now in
    let one = seen_of c.args.line c.args.request.now (answered_of (P.heap s) (P.trays s) c.args.answer.now) s in
    rw p.1 (first_stopped (L.show (L.state c.args.self.now.first) one) (M.show (M.state c.args.self.now.second) one) (L.contents c.args.out.now.first) (L.contents c.line.new.out) (M.contents c.args.out.now.second) c.in_err-line.ensures.shown)

pub returns-clause-shown : goal.returns-clause-shown
returns-clause-shown g c =
    let L = g.L.Listener in
    let M = g.M.Listener in
    let P = g.P.Player in
    let s = c.args.player.now in
    let one = seen_of c.args.line c.args.request.now (answered_of (P.heap s) (P.trays s) c.args.answer.now) s in
    second_shown (L.show (L.state c.args.self.now.first) one) (M.show (M.state c.args.self.now.second) one) _ _ c.line-2.result (L.contents c.args.out.now.first) (L.contents c.line.new.out) (M.contents c.args.out.now.second) (M.contents c.line-2.new.out) c.in_ok-line.ensures.shown c.line-2.ensures.shown
