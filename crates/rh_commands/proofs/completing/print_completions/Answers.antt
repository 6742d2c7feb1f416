use Rattle.rh_commands.proofs.Drawn.{SentEnds-flushed}
use Rattle.rh_commands.proofs.completing.print_completions.Goals as goal

pub returns-clause-concluded : goal.returns-clause-concluded
returns-clause-concluded g c =
    let contents = g.O.Write.contents in
    (c.send-sent.result, SentEnds-flushed c.send-sent.result c.as_bytes.result.now (contents c.args.out.now) (contents c.send-sent.new.writer) (contents c.flush-flushed.new.self) c.send-sent.ensures.ok c.send-sent.ensures.err c.flush-flushed.ensures.bytes, c.conclude.ensures.status)
