use Rattle.std.proofs.Common.{ap, sym, ◌∙◌}
use Rattle.std.proofs.lemmas.Result.{err_from_is_err_and}
use Rattle.rh_text.specs.IoLog.{AreSpent}
use Rattle.rh_dump.specs.Dump.{GraphState}
use Rattle.rh_dump.specs.Graph.{graph_in}
use Rattle.rh_dump.specs.texts.Line.{spell_dump_line, objects_line, dump_text}
use Rattle.rh_dump.proofs.numbers.ObjectsIn.{length-objects_in}
use Rattle.rh_dump.proofs.texts.Counts.{made_by, spent_by, made_after, spent_after, made_more, spent_more, err_ok, err_err}
use Rattle.rh_dump.proofs.texts.Sending.{text_end, head_next, head_less, roots_next, roots_less, count_next, count_less, all_next, all_less, on_ok, on_err, Sent-last, Sent-last_less}
use Rattle.rh_dump.proofs.writing.write_flat.Goals as goal

pub returns-in_err-send-clause-err : goal.returns-in_err-send-clause-err
returns-in_err-send-clause-err g c =
    let known = g.W.Write.contents in
    let p = err_from_is_err_and c.from_residual.result c.from_residual.ensures.1 in
    let graph : GraphState = graph_in (record { roots = c.args.roots.now; shapes = c.args.shapes.now; values = c.args.values.now }) in
    rw p.1 (head_less graph (known c.args.writer.now) (known c.send.new.writer) c.as_bytes.result.now (c.as_bytes.ensures ∙ c.put_head.ensures) c.in_err-send.ensures.err)

pub returns-in_err-write_roots-clause-err : goal.returns-in_err-write_roots-clause-err
returns-in_err-write_roots-clause-err g c =
    let known = g.W.Write.contents in
    let p = err_from_is_err_and c.from_residual-in_err-write_roots.result c.from_residual-in_err-write_roots.ensures.1 in
    let graph : GraphState = graph_in (record { roots = c.args.roots.now; shapes = c.args.shapes.now; values = c.args.values.now }) in
    let head = head_next graph (known c.args.writer.now) (known c.send.new.writer) c.as_bytes.result.now (c.as_bytes.ensures ∙ c.put_head.ensures) c.in_ok-send.ensures.ok in
    rw p.1 (roots_less graph (known c.args.writer.now) (known c.send.new.writer) (known c.write_roots.new.writer) head c.in_err-write_roots.ensures.err)

pub returns-in_err-send-2-clause-err : goal.returns-in_err-send-2-clause-err
returns-in_err-send-2-clause-err g c =
    let known = g.W.Write.contents in
    let p = err_from_is_err_and c.from_residual-in_err-send-2.result c.from_residual-in_err-send-2.ensures.1 in
    let graph : GraphState = graph_in (record { roots = c.args.roots.now; shapes = c.args.shapes.now; values = c.args.values.now }) in
    let head = head_next graph (known c.args.writer.now) (known c.send.new.writer) c.as_bytes.result.now (c.as_bytes.ensures ∙ c.put_head.ensures) c.in_ok-send.ensures.ok in
    let roots = roots_next graph (known c.args.writer.now) (known c.send.new.writer) (known c.write_roots.new.writer) head c.in_ok-write_roots.ensures.ok in
    let is = c.as_bytes-2.ensures ∙ c.put_objects_line.ensures ∙ ap (λ n. spell_dump_line (objects_line n)) (sym (length-objects_in c.args.shapes.now c.args.values.now)) in
    rw p.1 (count_less graph (known c.args.writer.now) (known c.write_roots.new.writer) (known c.send-2.new.writer) c.as_bytes-2.result.now is roots c.in_err-send-2.ensures.err)

pub returns-in_err-write_objects-clause-err : goal.returns-in_err-write_objects-clause-err
returns-in_err-write_objects-clause-err g c =
    let known = g.W.Write.contents in
    let p = err_from_is_err_and c.from_residual-in_err-write_objects.result c.from_residual-in_err-write_objects.ensures.1 in
    let graph : GraphState = graph_in (record { roots = c.args.roots.now; shapes = c.args.shapes.now; values = c.args.values.now }) in
    let head = head_next graph (known c.args.writer.now) (known c.send.new.writer) c.as_bytes.result.now (c.as_bytes.ensures ∙ c.put_head.ensures) c.in_ok-send.ensures.ok in
    let roots = roots_next graph (known c.args.writer.now) (known c.send.new.writer) (known c.write_roots.new.writer) head c.in_ok-write_roots.ensures.ok in
    let is = c.as_bytes-2.ensures ∙ c.put_objects_line.ensures ∙ ap (λ n. spell_dump_line (objects_line n)) (sym (length-objects_in c.args.shapes.now c.args.values.now)) in
    let count = count_next graph (known c.args.writer.now) (known c.write_roots.new.writer) (known c.send-2.new.writer) c.as_bytes-2.result.now is roots c.in_ok-send-2.ensures.ok in
    rw p.1 (all_less graph (known c.args.writer.now) (known c.send-2.new.writer) (known c.write_objects.new.writer) count c.in_err-write_objects.ensures.err)

pub returns-clause-ok : goal.returns-clause-ok
returns-clause-ok g c =
    let known = g.W.Write.contents in
    let graph : GraphState = graph_in (record { roots = c.args.roots.now; shapes = c.args.shapes.now; values = c.args.values.now }) in
    let head = head_next graph (known c.args.writer.now) (known c.send.new.writer) c.as_bytes.result.now (c.as_bytes.ensures ∙ c.put_head.ensures) c.in_ok-send.ensures.ok in
    let roots = roots_next graph (known c.args.writer.now) (known c.send.new.writer) (known c.write_roots.new.writer) head c.in_ok-write_roots.ensures.ok in
    let is = c.as_bytes-2.ensures ∙ c.put_objects_line.ensures ∙ ap (λ n. spell_dump_line (objects_line n)) (sym (length-objects_in c.args.shapes.now c.args.values.now)) in
    let count = count_next graph (known c.args.writer.now) (known c.write_roots.new.writer) (known c.send-2.new.writer) c.as_bytes-2.result.now is roots c.in_ok-send-2.ensures.ok in
    let all = all_next graph (known c.args.writer.now) (known c.send-2.new.writer) (known c.write_objects.new.writer) count c.in_ok-write_objects.ensures.ok in
    on_ok c.send-3.result (Sent-last (known c.args.writer.now) (known c.write_objects.new.writer) (known c.send-3.new.writer) (dump_text graph) text_end all) c.send-3.ensures.ok

pub returns-clause-err : goal.returns-clause-err
returns-clause-err g c =
    let known = g.W.Write.contents in
    let graph : GraphState = graph_in (record { roots = c.args.roots.now; shapes = c.args.shapes.now; values = c.args.values.now }) in
    let head = head_next graph (known c.args.writer.now) (known c.send.new.writer) c.as_bytes.result.now (c.as_bytes.ensures ∙ c.put_head.ensures) c.in_ok-send.ensures.ok in
    let roots = roots_next graph (known c.args.writer.now) (known c.send.new.writer) (known c.write_roots.new.writer) head c.in_ok-write_roots.ensures.ok in
    let is = c.as_bytes-2.ensures ∙ c.put_objects_line.ensures ∙ ap (λ n. spell_dump_line (objects_line n)) (sym (length-objects_in c.args.shapes.now c.args.values.now)) in
    let count = count_next graph (known c.args.writer.now) (known c.write_roots.new.writer) (known c.send-2.new.writer) c.as_bytes-2.result.now is roots c.in_ok-send-2.ensures.ok in
    let all = all_next graph (known c.args.writer.now) (known c.send-2.new.writer) (known c.write_objects.new.writer) count c.in_ok-write_objects.ensures.ok in
    on_err c.send-3.result (Sent-last_less (known c.args.writer.now) (known c.write_objects.new.writer) (known c.send-3.new.writer) (dump_text graph) text_end all) c.send-3.ensures.err

pub returns-in_err-send-clause-ok : goal.returns-in_err-send-clause-ok
returns-in_err-send-clause-ok g c = err_ok _ c.from_residual.result c.from_residual.ensures.0

pub returns-in_err-send-clause-failed : goal.returns-in_err-send-clause-failed
returns-in_err-send-clause-failed g c = err_err c.from_residual.result c.in_err-send.ensures.failed

pub returns-in_err-send-clause-none_failed : goal.returns-in_err-send-clause-none_failed
returns-in_err-send-clause-none_failed g c = err_ok _ c.from_residual.result c.from_residual.ensures.0

pub returns-in_err-send-clause-spent : goal.returns-in_err-send-clause-spent
returns-in_err-send-clause-spent g c =
    let old = c.args.writes.now in
    let head = c.send.new.writes in
    err_err c.from_residual.result (spent_by old head c.in_err-send.ensures.failed c.send.ensures.counted)

pub returns-in_err-send-clause-counted : goal.returns-in_err-send-clause-counted
returns-in_err-send-clause-counted g c =
    let old = c.args.writes.now in
    let head = c.send.new.writes in
    made_by old head c.send.ensures.counted

pub returns-in_err-write_roots-clause-ok : goal.returns-in_err-write_roots-clause-ok
returns-in_err-write_roots-clause-ok g c = err_ok _ c.from_residual-in_err-write_roots.result c.from_residual-in_err-write_roots.ensures.0

pub returns-in_err-write_roots-clause-failed : goal.returns-in_err-write_roots-clause-failed
returns-in_err-write_roots-clause-failed g c = err_err c.from_residual-in_err-write_roots.result c.in_err-write_roots.ensures.failed

pub returns-in_err-write_roots-clause-none_failed : goal.returns-in_err-write_roots-clause-none_failed
returns-in_err-write_roots-clause-none_failed g c = err_ok _ c.from_residual-in_err-write_roots.result c.from_residual-in_err-write_roots.ensures.0

pub returns-in_err-write_roots-clause-spent : goal.returns-in_err-write_roots-clause-spent
returns-in_err-write_roots-clause-spent g c =
    let old = c.args.writes.now in
    let head = c.send.new.writes in
    let roots = c.write_roots.new.writes in
    let made-head = made_by old head c.send.ensures.counted in
    err_err c.from_residual-in_err-write_roots.result (spent_after old head roots made-head c.in_err-write_roots.ensures.spent)

pub returns-in_err-write_roots-clause-counted : goal.returns-in_err-write_roots-clause-counted
returns-in_err-write_roots-clause-counted g c =
    let old = c.args.writes.now in
    let head = c.send.new.writes in
    let roots = c.write_roots.new.writes in
    let made-head = made_by old head c.send.ensures.counted in
    made_after old head roots made-head c.write_roots.ensures.counted

pub returns-in_err-send-2-clause-ok : goal.returns-in_err-send-2-clause-ok
returns-in_err-send-2-clause-ok g c = err_ok _ c.from_residual-in_err-send-2.result c.from_residual-in_err-send-2.ensures.0

pub returns-in_err-send-2-clause-failed : goal.returns-in_err-send-2-clause-failed
returns-in_err-send-2-clause-failed g c = err_err c.from_residual-in_err-send-2.result c.in_err-send-2.ensures.failed

pub returns-in_err-send-2-clause-none_failed : goal.returns-in_err-send-2-clause-none_failed
returns-in_err-send-2-clause-none_failed g c = err_ok _ c.from_residual-in_err-send-2.result c.from_residual-in_err-send-2.ensures.0

pub returns-in_err-send-2-clause-spent : goal.returns-in_err-send-2-clause-spent
returns-in_err-send-2-clause-spent g c =
    let old = c.args.writes.now in
    let head = c.send.new.writes in
    let roots = c.write_roots.new.writes in
    let count = c.send-2.new.writes in
    let made-head = made_by old head c.send.ensures.counted in
    let made-roots = made_after old head roots made-head c.write_roots.ensures.counted in
    err_err c.from_residual-in_err-send-2.result (spent_more old roots count made-roots c.in_err-send-2.ensures.failed c.send-2.ensures.counted)

pub returns-in_err-send-2-clause-counted : goal.returns-in_err-send-2-clause-counted
returns-in_err-send-2-clause-counted g c =
    let old = c.args.writes.now in
    let head = c.send.new.writes in
    let roots = c.write_roots.new.writes in
    let count = c.send-2.new.writes in
    let made-head = made_by old head c.send.ensures.counted in
    let made-roots = made_after old head roots made-head c.write_roots.ensures.counted in
    made_more old roots count made-roots c.send-2.ensures.counted

pub returns-in_err-write_objects-clause-ok : goal.returns-in_err-write_objects-clause-ok
returns-in_err-write_objects-clause-ok g c = err_ok _ c.from_residual-in_err-write_objects.result c.from_residual-in_err-write_objects.ensures.0

pub returns-in_err-write_objects-clause-failed : goal.returns-in_err-write_objects-clause-failed
returns-in_err-write_objects-clause-failed g c = err_err c.from_residual-in_err-write_objects.result c.in_err-write_objects.ensures.failed

pub returns-in_err-write_objects-clause-none_failed : goal.returns-in_err-write_objects-clause-none_failed
returns-in_err-write_objects-clause-none_failed g c = err_ok _ c.from_residual-in_err-write_objects.result c.from_residual-in_err-write_objects.ensures.0

pub returns-in_err-write_objects-clause-spent : goal.returns-in_err-write_objects-clause-spent
returns-in_err-write_objects-clause-spent g c =
    let old = c.args.writes.now in
    let head = c.send.new.writes in
    let roots = c.write_roots.new.writes in
    let count = c.send-2.new.writes in
    let objects = c.write_objects.new.writes in
    let made-head = made_by old head c.send.ensures.counted in
    let made-roots = made_after old head roots made-head c.write_roots.ensures.counted in
    let made-count = made_more old roots count made-roots c.send-2.ensures.counted in
    err_err c.from_residual-in_err-write_objects.result (spent_after old count objects made-count c.in_err-write_objects.ensures.spent)

pub returns-in_err-write_objects-clause-counted : goal.returns-in_err-write_objects-clause-counted
returns-in_err-write_objects-clause-counted g c =
    let old = c.args.writes.now in
    let head = c.send.new.writes in
    let roots = c.write_roots.new.writes in
    let count = c.send-2.new.writes in
    let objects = c.write_objects.new.writes in
    let made-head = made_by old head c.send.ensures.counted in
    let made-roots = made_after old head roots made-head c.write_roots.ensures.counted in
    let made-count = made_more old roots count made-roots c.send-2.ensures.counted in
    made_after old count objects made-count c.write_objects.ensures.counted

pub returns-clause-failed : goal.returns-clause-failed
returns-clause-failed g c = c.send-3.ensures.failed

pub returns-clause-none_failed : goal.returns-clause-none_failed
returns-clause-none_failed g c = c.send-3.ensures.none_failed

pub returns-clause-spent : goal.returns-clause-spent
returns-clause-spent g c =
    let old = c.args.writes.now in
    let head = c.send.new.writes in
    let roots = c.write_roots.new.writes in
    let count = c.send-2.new.writes in
    let objects = c.write_objects.new.writes in
    let all = c.send-3.new.writes in
    let made-head = made_by old head c.send.ensures.counted in
    let made-roots = made_after old head roots made-head c.write_roots.ensures.counted in
    let made-count = made_more old roots count made-roots c.send-2.ensures.counted in
    let made-objects = made_after old count objects made-count c.write_objects.ensures.counted in
    on_err c.send-3.result (λ (failed : AreSpent all). spent_more old objects all made-objects failed c.send-3.ensures.counted) c.send-3.ensures.failed

pub returns-clause-counted : goal.returns-clause-counted
returns-clause-counted g c =
    let old = c.args.writes.now in
    let head = c.send.new.writes in
    let roots = c.write_roots.new.writes in
    let count = c.send-2.new.writes in
    let objects = c.write_objects.new.writes in
    let all = c.send-3.new.writes in
    let made-head = made_by old head c.send.ensures.counted in
    let made-roots = made_after old head roots made-head c.write_roots.ensures.counted in
    let made-count = made_more old roots count made-roots c.send-2.ensures.counted in
    let made-objects = made_after old count objects made-count c.write_objects.ensures.counted in
    made_more old objects all made-objects c.send-3.ensures.counted
