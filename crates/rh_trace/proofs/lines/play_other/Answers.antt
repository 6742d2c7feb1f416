use Rattle.rh_trace.specs.Answering.{answered_of}
use Rattle.rh_trace.proofs.LinesInTurn.{stopped_line}
use Rattle.rh_trace.proofs.lines.play_other.Goals as goal

pub returns-clause-stopped : goal.returns-clause-stopped
returns-clause-stopped g c =
    let P = g.P.Player in
    let L = g.L.Listener in
    let t = c.other.new.self in
    stopped_line P.Steps L.next L.show c.line.result c.args.line c.args.player.now c.args.request.now t (L.state c.args.listener.now) (answered_of (P.heap t) (P.trays t) c.in_ok-answer.answer) (L.contents c.args.out.now) (L.contents c.line.new.out) c.in_ok-answer.ensures c.line.ensures.shown
