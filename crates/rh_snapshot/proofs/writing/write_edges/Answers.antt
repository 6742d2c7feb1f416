use Rattle.std.proofs.Common.{List, drop, ap, refl, ◌∙◌, arith}
use Rattle.std.proofs.lemmas.Result.{err_from_is_err_and}
use Rattle.std.proofs.lemmas.List.{drop_all}
use Rattle.rh_layout.specs.declared.value.Value.{Value}
use Rattle.rh_dump.proofs.texts.Sending.{Sent-begin, Sent-all}
use Rattle.rh_snapshot.proofs.Parts.{counted_less, counted_next, edge_part, edges_step, edges_text}
use Rattle.rh_dump.proofs.texts.Counts.{made_none, made_more, spent_more, err_ok, err_err}
use Rattle.rh_snapshot.proofs.writing.write_edges.Goals as goal

pub returns-in_err-send-clause-err : goal.returns-in_err-send-clause-err
returns-in_err-send-clause-err g c =
    let p = err_from_is_err_and c.from_residual.result c.from_residual.ensures.1 in
    rw p.1 (counted_less edges_text edge_part edges_step (g.W.Write.contents c.args.writer.now) (g.W.Write.contents c.loop-value.writer) (g.W.Write.contents c.send.new.writer) (edges_text 0 c.args.fields.now) c.as_bytes.result.now c.args.fields.now c.loop-value.field c.loop-value.value-index _ c.loop-value-test.true (c.as_bytes.ensures ∙ c.put_field_edge.ensures) c.loop-value.invariant.sent c.in_err-send.ensures.err)

pub loop-value-preserved : goal.loop-value-preserved
loop-value-preserved g c = record {
  sent = counted_next edges_text edge_part edges_step (g.W.Write.contents c.args.writer.now) (g.W.Write.contents c.loop-value.writer) (g.W.Write.contents c.send.new.writer) (edges_text 0 c.args.fields.now) c.as_bytes.result.now c.args.fields.now c.loop-value.field c.loop-value.value-index _ c.loop-value-test.true (c.as_bytes.ensures ∙ c.put_field_edge.ensures) c.loop-value.invariant.sent c.in_ok-send.ensures.ok;
  field = omega (arith, c.loop-value.invariant.field);
  none_failed = c.in_ok-send.ensures.none_failed;
  counted = made_more c.args.writes.now c.loop-value.writes c.send.new.writes c.loop-value.invariant.counted c.send.ensures.counted;
}

pub loop-value-init : goal.loop-value-init
loop-value-init g c = record {
  sent = Sent-begin (g.W.Write.contents c.args.writer.now) (edges_text 0 c.args.fields.now);
  field = refl;
  none_failed = c.requires;
  counted = made_none c.args.writes.now;
}

pub send-requires : goal.send-requires
send-requires g c = c.loop-value.invariant.none_failed

pub returns-in_err-send-clause-ok : goal.returns-in_err-send-clause-ok
returns-in_err-send-clause-ok g c = err_ok _ c.from_residual.result c.from_residual.ensures.0

pub returns-in_err-send-clause-none_failed : goal.returns-in_err-send-clause-none_failed
returns-in_err-send-clause-none_failed g c = err_ok _ c.from_residual.result c.from_residual.ensures.0

pub returns-in_err-send-clause-failed : goal.returns-in_err-send-clause-failed
returns-in_err-send-clause-failed g c = err_err c.from_residual.result c.in_err-send.ensures.failed

pub returns-in_err-send-clause-spent : goal.returns-in_err-send-clause-spent
returns-in_err-send-clause-spent g c = err_err c.from_residual.result (spent_more c.args.writes.now c.loop-value.writes c.send.new.writes c.loop-value.invariant.counted c.in_err-send.ensures.failed c.send.ensures.counted)

pub returns-in_err-send-clause-counted : goal.returns-in_err-send-clause-counted
returns-in_err-send-clause-counted g c = made_more c.args.writes.now c.loop-value.writes c.send.new.writes c.loop-value.invariant.counted c.send.ensures.counted

pub returns-clause-ok : goal.returns-clause-ok
returns-clause-ok g c = Sent-all (g.W.Write.contents c.args.writer.now) (g.W.Write.contents c.loop-value.writer) (edges_text 0 c.args.fields.now) (edges_text c.loop-value.field (drop c.loop-value.value-index c.args.fields.now)) (ap (λ (values : List Value). edges_text c.loop-value.field values) (drop_all c.loop-value.value-index c.args.fields.now c.loop-value-test.false)) c.loop-value.invariant.sent

pub returns-clause-err : goal.returns-clause-err
returns-clause-err g c = tt

pub returns-clause-failed : goal.returns-clause-failed
returns-clause-failed g c = tt

pub returns-clause-spent : goal.returns-clause-spent
returns-clause-spent g c = tt

pub returns-clause-none_failed : goal.returns-clause-none_failed
returns-clause-none_failed g c = c.loop-value.invariant.none_failed

pub returns-clause-counted : goal.returns-clause-counted
returns-clause-counted g c = c.loop-value.invariant.counted
