use Rattle.std.proofs.lemmas.Result.{err_from_is_err_and}
use Rattle.rh_dump.specs.Graph.{objects_in}
use Rattle.rh_dump.proofs.texts.Counts.{made_by, spent_by, made_after, spent_after, made_more, spent_more, err_ok, err_err}
use Rattle.rh_dump.proofs.texts.Sending.{on_ok, on_err, Sent-last, Sent-last_less}
use Rattle.rh_dot.specs.Dot.{dot_text}
use Rattle.rh_dot.proofs.Parts.{text_close, open_next, open_less, roots_next, roots_less, all_next, all_less}
use Rattle.rh_dot.proofs.writing.write_dot.Goals as goal

pub returns-in_err-send-clause-err : goal.returns-in_err-send-clause-err
returns-in_err-send-clause-err g c =
    let known = g.W.Write.contents in
    let p = err_from_is_err_and c.from_residual.result c.from_residual.ensures.1 in
    rw p.1 (open_less c.args.graph.now (known c.args.writer.now) (known c.send.new.writer) c.in_err-send.ensures.err)

pub returns-in_err-write_roots-clause-err : goal.returns-in_err-write_roots-clause-err
returns-in_err-write_roots-clause-err g c =
    let known = g.W.Write.contents in
    let p = err_from_is_err_and c.from_residual-in_err-write_roots.result c.from_residual-in_err-write_roots.ensures.1 in
    let graph = c.args.graph.now in
    let opened = open_next graph (known c.args.writer.now) (known c.send.new.writer) c.in_ok-send.ensures.ok in
    rw p.1 (roots_less graph (known c.args.writer.now) (known c.send.new.writer) (known c.write_roots.new.writer) c.root_entries.result.now c.root_entries.ensures opened c.in_err-write_roots.ensures.err)

pub returns-in_err-write_objects-clause-err : goal.returns-in_err-write_objects-clause-err
returns-in_err-write_objects-clause-err g c =
    let known = g.W.Write.contents in
    let p = err_from_is_err_and c.from_residual-in_err-write_objects.result c.from_residual-in_err-write_objects.ensures.1 in
    let graph = c.args.graph.now in
    let opened = open_next graph (known c.args.writer.now) (known c.send.new.writer) c.in_ok-send.ensures.ok in
    let roots = roots_next graph (known c.args.writer.now) (known c.send.new.writer) (known c.write_roots.new.writer) c.root_entries.result.now c.root_entries.ensures opened c.in_ok-write_roots.ensures.ok in
    let parts = c.object_parts.result in
    rw p.1 (all_less graph (known c.args.writer.now) (known c.write_roots.new.writer) (known c.write_objects.new.writer) (objects_in parts.0.now parts.1.now) c.object_parts.ensures.objects roots c.in_err-write_objects.ensures.err)

pub returns-clause-ok : goal.returns-clause-ok
returns-clause-ok g c =
    let known = g.W.Write.contents in
    let graph = c.args.graph.now in
    let opened = open_next graph (known c.args.writer.now) (known c.send.new.writer) c.in_ok-send.ensures.ok in
    let roots = roots_next graph (known c.args.writer.now) (known c.send.new.writer) (known c.write_roots.new.writer) c.root_entries.result.now c.root_entries.ensures opened c.in_ok-write_roots.ensures.ok in
    let parts = c.object_parts.result in
    let all = all_next graph (known c.args.writer.now) (known c.write_roots.new.writer) (known c.write_objects.new.writer) (objects_in parts.0.now parts.1.now) c.object_parts.ensures.objects roots c.in_ok-write_objects.ensures.ok in
    on_ok c.send-2.result (Sent-last (known c.args.writer.now) (known c.write_objects.new.writer) (known c.send-2.new.writer) (dot_text graph) text_close all) c.send-2.ensures.ok

pub returns-clause-err : goal.returns-clause-err
returns-clause-err g c =
    let known = g.W.Write.contents in
    let graph = c.args.graph.now in
    let opened = open_next graph (known c.args.writer.now) (known c.send.new.writer) c.in_ok-send.ensures.ok in
    let roots = roots_next graph (known c.args.writer.now) (known c.send.new.writer) (known c.write_roots.new.writer) c.root_entries.result.now c.root_entries.ensures opened c.in_ok-write_roots.ensures.ok in
    let parts = c.object_parts.result in
    let all = all_next graph (known c.args.writer.now) (known c.write_roots.new.writer) (known c.write_objects.new.writer) (objects_in parts.0.now parts.1.now) c.object_parts.ensures.objects roots c.in_ok-write_objects.ensures.ok in
    on_err c.send-2.result (Sent-last_less (known c.args.writer.now) (known c.write_objects.new.writer) (known c.send-2.new.writer) (dot_text graph) text_close all) c.send-2.ensures.err

pub returns-in_err-send-clause-ok : goal.returns-in_err-send-clause-ok
returns-in_err-send-clause-ok g c = err_ok _ c.from_residual.result c.from_residual.ensures.0

pub returns-in_err-send-clause-failed : goal.returns-in_err-send-clause-failed
returns-in_err-send-clause-failed g c = err_err c.from_residual.result c.in_err-send.ensures.failed

pub returns-in_err-send-clause-none_failed : goal.returns-in_err-send-clause-none_failed
returns-in_err-send-clause-none_failed g c = err_ok _ c.from_residual.result c.from_residual.ensures.0

pub returns-in_err-write_roots-clause-ok : goal.returns-in_err-write_roots-clause-ok
returns-in_err-write_roots-clause-ok g c = err_ok _ c.from_residual-in_err-write_roots.result c.from_residual-in_err-write_roots.ensures.0

pub returns-in_err-write_roots-clause-failed : goal.returns-in_err-write_roots-clause-failed
returns-in_err-write_roots-clause-failed g c = err_err c.from_residual-in_err-write_roots.result c.in_err-write_roots.ensures.failed

pub returns-in_err-write_roots-clause-none_failed : goal.returns-in_err-write_roots-clause-none_failed
returns-in_err-write_roots-clause-none_failed g c = err_ok _ c.from_residual-in_err-write_roots.result c.from_residual-in_err-write_roots.ensures.0

pub returns-in_err-write_objects-clause-ok : goal.returns-in_err-write_objects-clause-ok
returns-in_err-write_objects-clause-ok g c = err_ok _ c.from_residual-in_err-write_objects.result c.from_residual-in_err-write_objects.ensures.0

pub returns-in_err-write_objects-clause-failed : goal.returns-in_err-write_objects-clause-failed
returns-in_err-write_objects-clause-failed g c = err_err c.from_residual-in_err-write_objects.result c.in_err-write_objects.ensures.failed

pub returns-in_err-write_objects-clause-none_failed : goal.returns-in_err-write_objects-clause-none_failed
returns-in_err-write_objects-clause-none_failed g c = err_ok _ c.from_residual-in_err-write_objects.result c.from_residual-in_err-write_objects.ensures.0

pub returns-clause-failed : goal.returns-clause-failed
returns-clause-failed g c = c.send-2.ensures.failed

pub returns-clause-none_failed : goal.returns-clause-none_failed
returns-clause-none_failed g c = c.send-2.ensures.none_failed

pub returns-in_err-send-clause-spent : goal.returns-in_err-send-clause-spent
returns-in_err-send-clause-spent g c =
    err_err c.from_residual.result (spent_by c.args.writes.now c.send.new.writes c.in_err-send.ensures.failed c.send.ensures.counted)

pub returns-in_err-send-clause-counted : goal.returns-in_err-send-clause-counted
returns-in_err-send-clause-counted g c = made_by c.args.writes.now c.send.new.writes c.send.ensures.counted

pub returns-in_err-write_roots-clause-spent : goal.returns-in_err-write_roots-clause-spent
returns-in_err-write_roots-clause-spent g c =
    let head = made_by c.args.writes.now c.send.new.writes c.send.ensures.counted in
    err_err c.from_residual-in_err-write_roots.result (spent_after c.args.writes.now c.send.new.writes c.write_roots.new.writes head c.in_err-write_roots.ensures.spent)

pub returns-in_err-write_roots-clause-counted : goal.returns-in_err-write_roots-clause-counted
returns-in_err-write_roots-clause-counted g c =
    let head = made_by c.args.writes.now c.send.new.writes c.send.ensures.counted in
    made_after c.args.writes.now c.send.new.writes c.write_roots.new.writes head c.write_roots.ensures.counted

pub returns-in_err-write_objects-clause-spent : goal.returns-in_err-write_objects-clause-spent
returns-in_err-write_objects-clause-spent g c =
    let head = made_by c.args.writes.now c.send.new.writes c.send.ensures.counted in
    let roots = made_after c.args.writes.now c.send.new.writes c.write_roots.new.writes head c.write_roots.ensures.counted in
    err_err c.from_residual-in_err-write_objects.result (spent_after c.args.writes.now c.write_roots.new.writes c.write_objects.new.writes roots c.in_err-write_objects.ensures.spent)

pub returns-in_err-write_objects-clause-counted : goal.returns-in_err-write_objects-clause-counted
returns-in_err-write_objects-clause-counted g c =
    let head = made_by c.args.writes.now c.send.new.writes c.send.ensures.counted in
    let roots = made_after c.args.writes.now c.send.new.writes c.write_roots.new.writes head c.write_roots.ensures.counted in
    made_after c.args.writes.now c.write_roots.new.writes c.write_objects.new.writes roots c.write_objects.ensures.counted

pub returns-clause-spent : goal.returns-clause-spent
returns-clause-spent g c =
    let head = made_by c.args.writes.now c.send.new.writes c.send.ensures.counted in
    let roots = made_after c.args.writes.now c.send.new.writes c.write_roots.new.writes head c.write_roots.ensures.counted in
    let objects = made_after c.args.writes.now c.write_roots.new.writes c.write_objects.new.writes roots c.write_objects.ensures.counted in
    on_err c.send-2.result (λ spent. spent_more c.args.writes.now c.write_objects.new.writes c.send-2.new.writes objects spent c.send-2.ensures.counted) c.send-2.ensures.failed

pub returns-clause-counted : goal.returns-clause-counted
returns-clause-counted g c =
    let head = made_by c.args.writes.now c.send.new.writes c.send.ensures.counted in
    let roots = made_after c.args.writes.now c.send.new.writes c.write_roots.new.writes head c.write_roots.ensures.counted in
    let objects = made_after c.args.writes.now c.write_roots.new.writes c.write_objects.new.writes roots c.write_objects.ensures.counted in
    made_more c.args.writes.now c.write_objects.new.writes c.send-2.new.writes objects c.send-2.ensures.counted
