use Rattle.std.proofs.Common.{ap, ◌∙◌}
use Rattle.rh_why.specs.Path.{path_text, why_text}
use Rattle.rh_commands.specs.Fault.{status_after}
use Rattle.rh_commands.proofs.Counted.{counted, uncounted_memory}
use Rattle.rh_commands.proofs.why.tell_path.Goals as goal

pub returns-in_default-clause-concluded : goal.returns-in_default-clause-concluded
returns-in_default-clause-concluded g c = λ input read. uncounted_memory (why_text c.args.object) input (g.O.Write.contents c.args.out.now)

pub returns-clause-concluded : goal.returns-clause-concluded
returns-clause-concluded g c =
    let contents = g.O.Write.contents in
    let graph = c.args.graph.now in
    counted (why_text c.args.object) c.write_path-sent.result (status_after c.conclude.result) graph (path_text c.args.object c.deref.result.now) (contents c.args.out.now) (contents c.write_path-sent.new.writer) (contents c.flush-flushed.new.self)
    (ap (path_text c.args.object) (c.deref.ensures.value ∙ c.in-Ok.ensures)) c.write_path-sent.ensures.ok c.write_path-sent.ensures.err c.flush-flushed.ensures.bytes c.conclude.ensures.status
