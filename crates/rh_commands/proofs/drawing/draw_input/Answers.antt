use Rattle.rh_commands.proofs.Drawn.{DrawEnds-flushed}
use Rattle.rh_commands.proofs.drawing.draw_input.Goals as goal

pub returns-clause-concluded : goal.returns-clause-concluded
returns-clause-concluded g c =
    let contents = g.O.Write.contents in
    (c.picture-drawn.result, DrawEnds-flushed c.picture-drawn.result (contents c.args.out.now) (contents c.picture-drawn.new.out) (contents c.flush-flushed.new.self) c.picture-drawn.ensures.ends c.flush-flushed.ensures.bytes, c.conclude.ensures.status)
