use Rattle.std.proofs.Common.{refl}
use Rattle.rh_dot.specs.Dot.{dot_text}
use Rattle.rh_commands.specs.Fault.{status_after}
use Rattle.rh_commands.proofs.Counted.{counted}
use Rattle.rh_commands.proofs.graphing.write_graph.Goals as goal

pub returns-clause-concluded : goal.returns-clause-concluded
returns-clause-concluded g c =
    let contents = g.O.Write.contents in
    let graph = c.args.graph.now in
    counted dot_text c.write_dot-sent.result (status_after c.conclude.result) graph (dot_text graph) (contents c.args.out.now) (contents c.write_dot-sent.new.writer) (contents c.flush-flushed.new.self)
    refl c.write_dot-sent.ensures.ok c.write_dot-sent.ensures.err c.flush-flushed.ensures.bytes c.conclude.ensures.status
