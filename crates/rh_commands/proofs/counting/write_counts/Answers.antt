use Rattle.std.proofs.Common.{◌∙◌}
use Rattle.rh_commands.specs.Count.{counts_line}
use Rattle.rh_commands.specs.Fault.{status_after}
use Rattle.rh_commands.proofs.Counted.{counted}
use Rattle.rh_commands.proofs.counting.write_counts.Goals as goal

pub returns-clause-concluded : goal.returns-clause-concluded
returns-clause-concluded g c =
    let contents = g.O.Write.contents in
    counted counts_line c.send-sent.result (status_after c.conclude.result) c.args.graph.now c.as_bytes.result.now (contents c.args.out.now) (contents c.send-sent.new.writer) (contents c.flush-flushed.new.self)
    (c.as_bytes.ensures ∙ c.put_counts.ensures) c.send-sent.ensures.ok c.send-sent.ensures.err c.flush-flushed.ensures.bytes c.conclude.ensures.status
