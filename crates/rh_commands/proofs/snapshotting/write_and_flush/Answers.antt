use Rattle.std.proofs.Common.{refl}
use Rattle.rh_snapshot.specs.Text.{snapshot_text}
use Rattle.rh_commands.specs.Fault.{status_after}
use Rattle.rh_commands.proofs.Counted.{counted}
use Rattle.rh_commands.proofs.snapshotting.write_and_flush.Goals as goal

pub returns-clause-concluded : goal.returns-clause-concluded
returns-clause-concluded g c =
    let contents = g.O.Write.contents in
    let graph = c.args.graph.now in
    counted snapshot_text c.write_snapshot-sent.result (status_after c.conclude.result) graph (snapshot_text graph) (contents c.args.out.now) (contents c.write_snapshot-sent.new.writer) (contents c.flush-flushed.new.self)
    refl c.write_snapshot-sent.ensures.ok c.write_snapshot-sent.ensures.err c.flush-flushed.ensures.bytes c.conclude.ensures.status
