use Rattle.std.proofs.Common.{◌≡◌, ◌++◌, ap, sym, ◌∙◌, refl, codes}
use Rattle.std.proofs.lemmas.Result.{err_from_is_err_and}
use Rattle.rh_dot.specs.Dot.{cells_text}
use Rattle.rh_dump.proofs.texts.Counts.{made_by, spent_by, made_after, spent_after, made_more, spent_more, err_ok, err_err}
use Rattle.rh_dump.proofs.texts.Sending.{Sent-begin, Sent-next, Sent-less, Sent-last, Sent-last_less, on_ok, on_err}
use Rattle.rh_dot.proofs.Parts.{after_cells, edges_text, object_of, object_part, object_parts}
use Rattle.rh_dot.proofs.writing.write_object.Goals as goal

pub returns-in_err-send-clause-err : goal.returns-in_err-send-clause-err
returns-in_err-send-clause-err g c =
    let known = g.W.Write.contents in
    let p = err_from_is_err_and c.from_residual.result c.from_residual.ensures.1 in
    let fields = c.args.fields.now in
    let text = object_part c.args.number (object_of c.args.raw fields) in
    let head = c.as_bytes.result.now in
    let after = cells_text 0 fields ++ after_cells c.args.number fields in
    let is : text ≡ head ++ after = object_parts c.args.number c.args.raw fields ∙ ap (λ t. t ++ after) (sym (c.as_bytes.ensures ∙ c.put_object_head.ensures)) in
    rw p.1 (Sent-less (known c.args.writer.now) (known c.args.writer.now) (known c.send.new.writer) text text head after (Sent-begin (known c.args.writer.now) text) is c.in_err-send.ensures.err)

pub returns-in_err-write_cells-clause-err : goal.returns-in_err-write_cells-clause-err
returns-in_err-write_cells-clause-err g c =
    let known = g.W.Write.contents in
    let p = err_from_is_err_and c.from_residual-in_err-write_cells.result c.from_residual-in_err-write_cells.ensures.1 in
    let fields = c.args.fields.now in
    let text = object_part c.args.number (object_of c.args.raw fields) in
    let head = c.as_bytes.result.now in
    let cells = cells_text 0 fields in
    let after = after_cells c.args.number fields in
    let is : text ≡ head ++ (cells ++ after) = object_parts c.args.number c.args.raw fields ∙ ap (λ t. t ++ (cells ++ after)) (sym (c.as_bytes.ensures ∙ c.put_object_head.ensures)) in
    let sent = Sent-next (known c.args.writer.now) (known c.args.writer.now) (known c.send.new.writer) text text head (cells ++ after) (Sent-begin (known c.args.writer.now) text) is c.in_ok-send.ensures.ok in
    rw p.1 (Sent-less (known c.args.writer.now) (known c.send.new.writer) (known c.write_cells.new.writer) text (cells ++ after) cells after sent refl c.in_err-write_cells.ensures.err)

pub returns-in_err-send-2-clause-err : goal.returns-in_err-send-2-clause-err
returns-in_err-send-2-clause-err g c =
    let known = g.W.Write.contents in
    let p = err_from_is_err_and c.from_residual-in_err-send-2.result c.from_residual-in_err-send-2.ensures.1 in
    let fields = c.args.fields.now in
    let text = object_part c.args.number (object_of c.args.raw fields) in
    let head = c.as_bytes.result.now in
    let cells = cells_text 0 fields in
    let after = after_cells c.args.number fields in
    let edges = edges_text c.args.number 0 fields in
    let is : text ≡ head ++ (cells ++ after) = object_parts c.args.number c.args.raw fields ∙ ap (λ t. t ++ (cells ++ after)) (sym (c.as_bytes.ensures ∙ c.put_object_head.ensures)) in
    let sent = Sent-next (known c.args.writer.now) (known c.args.writer.now) (known c.send.new.writer) text text head (cells ++ after) (Sent-begin (known c.args.writer.now) text) is c.in_ok-send.ensures.ok in
    let more = Sent-next (known c.args.writer.now) (known c.send.new.writer) (known c.write_cells.new.writer) text (cells ++ after) cells after sent refl c.in_ok-write_cells.ensures.ok in
    rw p.1 (Sent-less (known c.args.writer.now) (known c.write_cells.new.writer) (known c.send-2.new.writer) text after (codes "\"]\n") edges more refl c.in_err-send-2.ensures.err)

pub returns-clause-ok : goal.returns-clause-ok
returns-clause-ok g c =
    let known = g.W.Write.contents in
    let fields = c.args.fields.now in
    let text = object_part c.args.number (object_of c.args.raw fields) in
    let head = c.as_bytes.result.now in
    let cells = cells_text 0 fields in
    let after = after_cells c.args.number fields in
    let edges = edges_text c.args.number 0 fields in
    let is : text ≡ head ++ (cells ++ after) = object_parts c.args.number c.args.raw fields ∙ ap (λ t. t ++ (cells ++ after)) (sym (c.as_bytes.ensures ∙ c.put_object_head.ensures)) in
    let sent = Sent-next (known c.args.writer.now) (known c.args.writer.now) (known c.send.new.writer) text text head (cells ++ after) (Sent-begin (known c.args.writer.now) text) is c.in_ok-send.ensures.ok in
    let more = Sent-next (known c.args.writer.now) (known c.send.new.writer) (known c.write_cells.new.writer) text (cells ++ after) cells after sent refl c.in_ok-write_cells.ensures.ok in
    let most = Sent-next (known c.args.writer.now) (known c.write_cells.new.writer) (known c.send-2.new.writer) text after (codes "\"]\n") edges more refl c.in_ok-send-2.ensures.ok in
    on_ok c.write_edges.result (Sent-last (known c.args.writer.now) (known c.send-2.new.writer) (known c.write_edges.new.writer) text edges most) c.write_edges.ensures.ok

pub returns-clause-err : goal.returns-clause-err
returns-clause-err g c =
    let known = g.W.Write.contents in
    let fields = c.args.fields.now in
    let text = object_part c.args.number (object_of c.args.raw fields) in
    let head = c.as_bytes.result.now in
    let cells = cells_text 0 fields in
    let after = after_cells c.args.number fields in
    let edges = edges_text c.args.number 0 fields in
    let is : text ≡ head ++ (cells ++ after) = object_parts c.args.number c.args.raw fields ∙ ap (λ t. t ++ (cells ++ after)) (sym (c.as_bytes.ensures ∙ c.put_object_head.ensures)) in
    let sent = Sent-next (known c.args.writer.now) (known c.args.writer.now) (known c.send.new.writer) text text head (cells ++ after) (Sent-begin (known c.args.writer.now) text) is c.in_ok-send.ensures.ok in
    let more = Sent-next (known c.args.writer.now) (known c.send.new.writer) (known c.write_cells.new.writer) text (cells ++ after) cells after sent refl c.in_ok-write_cells.ensures.ok in
    let most = Sent-next (known c.args.writer.now) (known c.write_cells.new.writer) (known c.send-2.new.writer) text after (codes "\"]\n") edges more refl c.in_ok-send-2.ensures.ok in
    on_err c.write_edges.result (Sent-last_less (known c.args.writer.now) (known c.send-2.new.writer) (known c.write_edges.new.writer) text edges most) c.write_edges.ensures.err

pub returns-in_err-send-clause-ok : goal.returns-in_err-send-clause-ok
returns-in_err-send-clause-ok g c = err_ok _ c.from_residual.result c.from_residual.ensures.0

pub returns-in_err-send-clause-failed : goal.returns-in_err-send-clause-failed
returns-in_err-send-clause-failed g c = err_err c.from_residual.result c.in_err-send.ensures.failed

pub returns-in_err-send-clause-none_failed : goal.returns-in_err-send-clause-none_failed
returns-in_err-send-clause-none_failed g c = err_ok _ c.from_residual.result c.from_residual.ensures.0

pub returns-in_err-write_cells-clause-ok : goal.returns-in_err-write_cells-clause-ok
returns-in_err-write_cells-clause-ok g c = err_ok _ c.from_residual-in_err-write_cells.result c.from_residual-in_err-write_cells.ensures.0

pub returns-in_err-write_cells-clause-failed : goal.returns-in_err-write_cells-clause-failed
returns-in_err-write_cells-clause-failed g c = err_err c.from_residual-in_err-write_cells.result c.in_err-write_cells.ensures.failed

pub returns-in_err-write_cells-clause-none_failed : goal.returns-in_err-write_cells-clause-none_failed
returns-in_err-write_cells-clause-none_failed g c = err_ok _ c.from_residual-in_err-write_cells.result c.from_residual-in_err-write_cells.ensures.0

pub returns-in_err-send-2-clause-ok : goal.returns-in_err-send-2-clause-ok
returns-in_err-send-2-clause-ok g c = err_ok _ c.from_residual-in_err-send-2.result c.from_residual-in_err-send-2.ensures.0

pub returns-in_err-send-2-clause-failed : goal.returns-in_err-send-2-clause-failed
returns-in_err-send-2-clause-failed g c = err_err c.from_residual-in_err-send-2.result c.in_err-send-2.ensures.failed

pub returns-in_err-send-2-clause-none_failed : goal.returns-in_err-send-2-clause-none_failed
returns-in_err-send-2-clause-none_failed g c = err_ok _ c.from_residual-in_err-send-2.result c.from_residual-in_err-send-2.ensures.0

pub returns-clause-failed : goal.returns-clause-failed
returns-clause-failed g c = c.write_edges.ensures.failed

pub returns-clause-none_failed : goal.returns-clause-none_failed
returns-clause-none_failed g c = c.write_edges.ensures.none_failed

pub returns-in_err-send-clause-spent : goal.returns-in_err-send-clause-spent
returns-in_err-send-clause-spent g c =
    err_err c.from_residual.result (spent_by c.args.writes.now c.send.new.writes c.in_err-send.ensures.failed c.send.ensures.counted)

pub returns-in_err-send-clause-counted : goal.returns-in_err-send-clause-counted
returns-in_err-send-clause-counted g c = made_by c.args.writes.now c.send.new.writes c.send.ensures.counted

pub returns-in_err-write_cells-clause-spent : goal.returns-in_err-write_cells-clause-spent
returns-in_err-write_cells-clause-spent g c =
    let head = made_by c.args.writes.now c.send.new.writes c.send.ensures.counted in
    err_err c.from_residual-in_err-write_cells.result (spent_after c.args.writes.now c.send.new.writes c.write_cells.new.writes head c.in_err-write_cells.ensures.spent)

pub returns-in_err-write_cells-clause-counted : goal.returns-in_err-write_cells-clause-counted
returns-in_err-write_cells-clause-counted g c =
    let head = made_by c.args.writes.now c.send.new.writes c.send.ensures.counted in
    made_after c.args.writes.now c.send.new.writes c.write_cells.new.writes head c.write_cells.ensures.counted

pub returns-in_err-send-2-clause-spent : goal.returns-in_err-send-2-clause-spent
returns-in_err-send-2-clause-spent g c =
    let head = made_by c.args.writes.now c.send.new.writes c.send.ensures.counted in
    let cells = made_after c.args.writes.now c.send.new.writes c.write_cells.new.writes head c.write_cells.ensures.counted in
    err_err c.from_residual-in_err-send-2.result (spent_more c.args.writes.now c.write_cells.new.writes c.send-2.new.writes cells c.in_err-send-2.ensures.failed c.send-2.ensures.counted)

pub returns-in_err-send-2-clause-counted : goal.returns-in_err-send-2-clause-counted
returns-in_err-send-2-clause-counted g c =
    let head = made_by c.args.writes.now c.send.new.writes c.send.ensures.counted in
    let cells = made_after c.args.writes.now c.send.new.writes c.write_cells.new.writes head c.write_cells.ensures.counted in
    made_more c.args.writes.now c.write_cells.new.writes c.send-2.new.writes cells c.send-2.ensures.counted

pub returns-clause-spent : goal.returns-clause-spent
returns-clause-spent g c =
    let head = made_by c.args.writes.now c.send.new.writes c.send.ensures.counted in
    let cells = made_after c.args.writes.now c.send.new.writes c.write_cells.new.writes head c.write_cells.ensures.counted in
    let close = made_more c.args.writes.now c.write_cells.new.writes c.send-2.new.writes cells c.send-2.ensures.counted in
    on_err c.write_edges.result (spent_after c.args.writes.now c.send-2.new.writes c.write_edges.new.writes close) c.write_edges.ensures.spent

pub returns-clause-counted : goal.returns-clause-counted
returns-clause-counted g c =
    let head = made_by c.args.writes.now c.send.new.writes c.send.ensures.counted in
    let cells = made_after c.args.writes.now c.send.new.writes c.write_cells.new.writes head c.write_cells.ensures.counted in
    let close = made_more c.args.writes.now c.write_cells.new.writes c.send-2.new.writes cells c.send-2.ensures.counted in
    made_after c.args.writes.now c.send-2.new.writes c.write_edges.new.writes close c.write_edges.ensures.counted
