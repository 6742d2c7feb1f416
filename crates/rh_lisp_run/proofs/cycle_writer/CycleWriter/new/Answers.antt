use Rattle.rh_cycles.specs.Line.{cycles_header}
use Rattle.rh_lisp_run.proofs.CycleLines.{cut-written, whole-written}
use Rattle.rh_lisp_run.proofs.cycle_writer.CycleWriter.new.Goals as goal

pub returns-in-Ok : goal.returns-in-Ok
returns-in-Ok g c = whole-written (g.W.Write.contents c.args.writer) (g.W.Write.contents c.write.new.writer) cycles_header c.in-Ok.ensures.written

pub returns-in-Err : goal.returns-in-Err
returns-in-Err g c = cut-written (g.W.Write.contents c.args.writer) (g.W.Write.contents c.write.new.writer) cycles_header c.in-Err.ensures.less
