use Rattle.std.proofs.Common.{Err, ap}
use Rattle.rh_trace_views.proofs.Drawn.{undrawn}
use Rattle.rh_trace_views.proofs.drawing.draw_read.Goals as goal

pub returns-in-Err-clause-drawn : goal.returns-in-Err-clause-drawn
returns-in-Err-clause-drawn g c = undrawn c.in-Err.fault (g.W.Write.contents c.args.writer.now) (λ is. c.in-Err.ensures.never_write (ap Err is))
