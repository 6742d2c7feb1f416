use Rattle.std.proofs.Common.{subst}
use Rattle.std.specs.Io.KnownBytes.{Appends}
use Rattle.std.proofs.lemmas.Result.{err_from_is_err_and}
use Rattle.rh_text.specs.Output.{AppendsLess}
use Rattle.rh_heap_dump.specs.HeapDump.{dump_of}
use Rattle.rh_dump.specs.texts.Line.{dump_text}
use Rattle.rh_trace.proofs.WrittenInTurn.{nothing_of_dump}
use Rattle.rh_trace.proofs.answers.write_heap_dump.Goals as goal

pub returns-in_err-graph-clause-written : goal.returns-in_err-graph-clause-written
returns-in_err-graph-clause-written g c =
    let p = err_from_is_err_and c.from_residual.result c.from_residual.ensures.1 in
    rw p.1 (nothing_of_dump (g.W.Write.contents c.args.writer.now) (dump_of c.args.heap.now))

pub returns-in_err-write_dump_logged-clause-written : goal.returns-in_err-write_dump_logged-clause-written
returns-in_err-write_dump_logged-clause-written g c =
    let known = g.W.Write.contents in
    let p = err_from_is_err_and c.from_residual-in_err-write_dump_logged.result c.from_residual-in_err-write_dump_logged.ensures.1 in
    rw p.1 (subst (λ graph. AppendsLess (known c.args.writer.now) (known c.write_dump_logged.new.writer) (dump_text graph)) c.in_ok-graph.ensures c.in_err-write_dump_logged.ensures.err)

pub returns-clause-written : goal.returns-clause-written
returns-clause-written g c =
    let known = g.W.Write.contents in
    subst (λ graph. Appends (known c.args.writer.now) (known c.write_dump_logged.new.writer) (dump_text graph)) c.in_ok-graph.ensures c.in_ok-write_dump_logged.ensures.ok
