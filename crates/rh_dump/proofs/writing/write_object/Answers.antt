use Rattle.std.proofs.Common.{◌≡◌, ◌++◌, ◌∷◌, [], ap, sym, subst, ◌∙◌}
use Rattle.std.proofs.lemmas.Result.{err_from_is_err_and}
use Rattle.std.proofs.lemmas.List.{drop_all}
use Rattle.rh_text.specs.IoLog.{AreSpent}
use Rattle.rh_text.specs.lemmas.Appends.{Sent}
use Rattle.rh_dump.specs.texts.Line.{spell_dump_line, object_line}
use Rattle.rh_dump.proofs.texts.Counts.{made_by, spent_by, made_more, spent_more, err_ok, err_err}
use Rattle.rh_dump.proofs.texts.Sending.{Sent-begin, Sent-next, Sent-less, Sent-last, Sent-last_less, on_ok, on_err}
use Rattle.rh_dump.proofs.texts.Sending.{fields_text, fields_step, value_piece, object_of, object_line_text, loop_next, loop_less}
use Rattle.rh_dump.proofs.writing.write_object.Goals as goal

pub returns-in_err-send-clause-err : goal.returns-in_err-send-clause-err
returns-in_err-send-clause-err g c =
    let known = g.W.Write.contents in
    let p = err_from_is_err_and c.from_residual.result c.from_residual.ensures.1 in
    let text = spell_dump_line (object_line c.args.number (object_of c.args.raw c.args.fields.now)) in
    let sent = c.as_bytes.result.now in
    let is : text ≡ sent ++ fields_text c.args.fields.now = object_line_text c.args.number c.args.raw c.args.fields.now ∙ ap (λ t. t ++ fields_text c.args.fields.now) (sym (c.as_bytes.ensures ∙ c.put_object_head.ensures)) in
    rw p.1 (Sent-less (known c.args.writer.now) (known c.args.writer.now) (known c.send.new.writer) text text sent (fields_text c.args.fields.now) (Sent-begin (known c.args.writer.now) text) is c.in_err-send.ensures.err)

pub loop-value-init : goal.loop-value-init
loop-value-init g c =
    let known = g.W.Write.contents in
    let text = spell_dump_line (object_line c.args.number (object_of c.args.raw c.args.fields.now)) in
    let sent = c.as_bytes.result.now in
    let is : text ≡ sent ++ fields_text c.args.fields.now = object_line_text c.args.number c.args.raw c.args.fields.now ∙ ap (λ t. t ++ fields_text c.args.fields.now) (sym (c.as_bytes.ensures ∙ c.put_object_head.ensures)) in
    record {
      sent = Sent-next (known c.args.writer.now) (known c.args.writer.now) (known c.send.new.writer) text text sent (fields_text c.args.fields.now) (Sent-begin (known c.args.writer.now) text) is c.in_ok-send.ensures.ok;
      none_failed = c.in_ok-send.ensures.none_failed;
      counted = made_by c.args.writes.now c.send.new.writes c.send.ensures.counted;
    }

pub returns-in_err-send-2-clause-err : goal.returns-in_err-send-2-clause-err
returns-in_err-send-2-clause-err g c =
    let known = g.W.Write.contents in
    let p = err_from_is_err_and c.from_residual-in_err-send-2.result c.from_residual-in_err-send-2.ensures.1 in
    let text = spell_dump_line (object_line c.args.number (object_of c.args.raw c.args.fields.now)) in
    rw p.1 (loop_less fields_text value_piece fields_step (known c.args.writer.now) (known c.loop-value.writer) (known c.send-in-loop-value.new.writer) text c.as_bytes-in-loop-value.result.now c.args.fields.now c.loop-value.value-index _ c.loop-value-test.true (c.as_bytes-in-loop-value.ensures ∙ c.put_next_value.ensures) c.loop-value.invariant.sent c.in_err-send-2.ensures.err)

pub loop-value-preserved : goal.loop-value-preserved
loop-value-preserved g c =
    let known = g.W.Write.contents in
    let text = spell_dump_line (object_line c.args.number (object_of c.args.raw c.args.fields.now)) in
    record {
      sent = loop_next fields_text value_piece fields_step (known c.args.writer.now) (known c.loop-value.writer) (known c.send-in-loop-value.new.writer) text c.as_bytes-in-loop-value.result.now c.args.fields.now c.loop-value.value-index _ c.loop-value-test.true (c.as_bytes-in-loop-value.ensures ∙ c.put_next_value.ensures) c.loop-value.invariant.sent c.in_ok-send-2.ensures.ok;
      none_failed = c.in_ok-send-2.ensures.none_failed;
      counted = made_more c.args.writes.now c.loop-value.writes c.send-in-loop-value.new.writes c.loop-value.invariant.counted c.send-in-loop-value.ensures.counted;
    }

pub returns-in_err-send-clause-ok : goal.returns-in_err-send-clause-ok
returns-in_err-send-clause-ok g c = err_ok _ c.from_residual.result c.from_residual.ensures.0

pub returns-in_err-send-clause-failed : goal.returns-in_err-send-clause-failed
returns-in_err-send-clause-failed g c = err_err c.from_residual.result c.in_err-send.ensures.failed

pub returns-in_err-send-clause-none_failed : goal.returns-in_err-send-clause-none_failed
returns-in_err-send-clause-none_failed g c = err_ok _ c.from_residual.result c.from_residual.ensures.0

pub returns-in_err-send-clause-spent : goal.returns-in_err-send-clause-spent
returns-in_err-send-clause-spent g c =
    err_err c.from_residual.result (spent_by c.args.writes.now c.send.new.writes c.in_err-send.ensures.failed c.send.ensures.counted)

pub returns-in_err-send-clause-counted : goal.returns-in_err-send-clause-counted
returns-in_err-send-clause-counted g c = made_by c.args.writes.now c.send.new.writes c.send.ensures.counted

pub returns-in_err-send-2-clause-ok : goal.returns-in_err-send-2-clause-ok
returns-in_err-send-2-clause-ok g c = err_ok _ c.from_residual-in_err-send-2.result c.from_residual-in_err-send-2.ensures.0

pub returns-in_err-send-2-clause-failed : goal.returns-in_err-send-2-clause-failed
returns-in_err-send-2-clause-failed g c = err_err c.from_residual-in_err-send-2.result c.in_err-send-2.ensures.failed

pub returns-in_err-send-2-clause-none_failed : goal.returns-in_err-send-2-clause-none_failed
returns-in_err-send-2-clause-none_failed g c = err_ok _ c.from_residual-in_err-send-2.result c.from_residual-in_err-send-2.ensures.0

pub returns-in_err-send-2-clause-spent : goal.returns-in_err-send-2-clause-spent
returns-in_err-send-2-clause-spent g c =
    let mid = c.loop-value.writes in
    let new = c.send-in-loop-value.new.writes in
    let counted = c.send-in-loop-value.ensures.counted in
    let spent = spent_more c.args.writes.now mid new c.loop-value.invariant.counted c.in_err-send-2.ensures.failed counted in
    err_err c.from_residual-in_err-send-2.result spent

pub returns-in_err-send-2-clause-counted : goal.returns-in_err-send-2-clause-counted
returns-in_err-send-2-clause-counted g c =
    let mid = c.loop-value.writes in
    let new = c.send-in-loop-value.new.writes in
    made_more c.args.writes.now mid new c.loop-value.invariant.counted c.send-in-loop-value.ensures.counted

pub returns-clause-failed : goal.returns-clause-failed
returns-clause-failed g c = c.send-2.ensures.failed

pub returns-clause-none_failed : goal.returns-clause-none_failed
returns-clause-none_failed g c = c.send-2.ensures.none_failed

pub returns-clause-spent : goal.returns-clause-spent
returns-clause-spent g c =
    let old = c.args.writes.now in
    let mid = c.loop-value.writes in
    let new = c.send-2.new.writes in
    let spent = λ (failed : AreSpent new). spent_more old mid new c.loop-value.invariant.counted failed c.send-2.ensures.counted in
    on_err c.send-2.result spent c.send-2.ensures.failed

pub returns-clause-counted : goal.returns-clause-counted
returns-clause-counted g c = made_more c.args.writes.now c.loop-value.writes c.send-2.new.writes c.loop-value.invariant.counted c.send-2.ensures.counted

pub returns-clause-ok : goal.returns-clause-ok
returns-clause-ok g c =
    let known = g.W.Write.contents in
    let text = spell_dump_line (object_line c.args.number (object_of c.args.raw c.args.fields.now)) in
    let sent = c.loop-value.invariant.sent in
    let old = known c.args.writer.now in
    let mid = known c.loop-value.writer in
    let none = ap fields_text (drop_all c.loop-value.value-index c.args.fields.now c.loop-value-test.false) in
    on_ok c.send-2.result (Sent-last old mid (known c.send-2.new.writer) text (10 ∷ []) (subst (Sent old mid text) none sent)) c.send-2.ensures.ok

pub returns-clause-err : goal.returns-clause-err
returns-clause-err g c =
    let known = g.W.Write.contents in
    let text = spell_dump_line (object_line c.args.number (object_of c.args.raw c.args.fields.now)) in
    let sent = c.loop-value.invariant.sent in
    let old = known c.args.writer.now in
    let mid = known c.loop-value.writer in
    let none = ap fields_text (drop_all c.loop-value.value-index c.args.fields.now c.loop-value-test.false) in
    on_err c.send-2.result (Sent-last_less old mid (known c.send-2.new.writer) text (10 ∷ []) (subst (Sent old mid text) none sent)) c.send-2.ensures.err

pub send-requires-2 : goal.send-requires-2
send-requires-2 g c = c.loop-value.invariant.none_failed

pub send-requires-in-loop-value : goal.send-requires-in-loop-value
send-requires-in-loop-value g c = c.loop-value.invariant.none_failed
