use Rattle.std.proofs.Common.{rules}
use Rattle.rh_trace.specs.Answers as answers
use Rattle.rh_trace.proofs.LinesInTurn.{stopped_line}
use Rattle.rh_trace.proofs.lines.play_line.Goals as goal

pub returns-in-Command-clause-stopped : goal.returns-in-Command-clause-stopped
returns-in-Command-clause-stopped g c =
    let P = g.P.Player in
    let L = g.L.Listener in
    let t = c.command-answer.new.self in
    let answered = answers.Answer c.command-answer.result in
    let step : P.Steps c.args.player.now c.args.request.now t answered = search rules in
    stopped_line P.Steps L.next L.show c.command.result c.args.line c.args.player.now c.args.request.now t (L.state c.args.listener.now) answered (L.contents c.args.out.now) (L.contents c.command.new.out) step c.command.ensures.shown
