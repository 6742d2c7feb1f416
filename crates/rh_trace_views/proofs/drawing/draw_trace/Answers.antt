use Rattle.rh_trace_views.proofs.Drawn.{drawn_less, drawn_not, drawn_whole}
use Rattle.rh_trace_views.proofs.drawing.draw_trace.Goals as goal

pub returns-in-Ok-clause-appended : goal.returns-in-Ok-clause-appended
returns-in-Ok-clause-appended g c = drawn_whole (g.W.Write.contents c.args.writer.now) (g.W.Write.contents c.draw_input.new.writer) c.draw_input.result c.draw_input.ensures.drawn

pub returns-in-Ok-clause-prefix : goal.returns-in-Ok-clause-prefix
returns-in-Ok-clause-prefix g c = drawn_less (g.W.Write.contents c.args.writer.now) (g.W.Write.contents c.draw_input.new.writer) c.draw_input.result c.draw_input.ensures.drawn

pub returns-in-Ok-clause-nothing : goal.returns-in-Ok-clause-nothing
returns-in-Ok-clause-nothing g c = drawn_not (g.W.Write.contents c.args.writer.now) (g.W.Write.contents c.draw_input.new.writer) c.draw_input.result c.draw_input.ensures.drawn
