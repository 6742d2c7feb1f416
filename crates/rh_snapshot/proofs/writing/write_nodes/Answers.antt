use Rattle.std.proofs.Common.{List, length, drop, ap, refl, ◌∙◌, arith}
use Rattle.std.proofs.lemmas.Result.{err_from_is_err_and}
use Rattle.std.proofs.lemmas.List.{drop_all}
use Rattle.rh_layout.specs.declared.shape.Shape.{Shape}
use Rattle.rh_dump.proofs.texts.Sending.{Sent-begin, Sent-all, total_more}
use Rattle.rh_snapshot.proofs.Parts.{node_sent, nodes_less, nodes_next, nodes_text}
use Rattle.rh_dump.proofs.texts.Counts.{made_none, made_more, spent_more, err_ok, err_err}
use Rattle.rh_snapshot.proofs.writing.write_nodes.Goals as goal

pub returns-in_err-send-clause-err : goal.returns-in_err-send-clause-err
returns-in_err-send-clause-err g c =
    let p = err_from_is_err_and c.from_residual.result c.from_residual.ensures.1 in
    rw p.1 (nodes_less (g.W.Write.contents c.args.writer.now) (g.W.Write.contents c.loop-shape.writer) (g.W.Write.contents c.send.new.writer) (nodes_text 0 c.args.shapes.now c.args.values.now) c.as_bytes.result.now c.loop-shape.number c.loop-shape.shape-index c.args.shapes.now _ c.loop-shape.rest.now c.split_at.result.0.now c.split_at.result.1.now c.loop-shape-test.true c.split_at.ensures.front c.split_at.ensures.back (node_sent c.loop-shape.number _ c.split_at.result.0.now _ c.count_references.result _ c.as_bytes.result.now (c.as_bytes.ensures ∙ c.put_object_node.ensures) c.split_at.ensures.front_len refl c.count_references.ensures.count) c.loop-shape.invariant.sent c.in_err-send.ensures.err)

pub loop-shape-preserved : goal.loop-shape-preserved
loop-shape-preserved g c = record {
  sent = nodes_next (g.W.Write.contents c.args.writer.now) (g.W.Write.contents c.loop-shape.writer) (g.W.Write.contents c.send.new.writer) (nodes_text 0 c.args.shapes.now c.args.values.now) c.as_bytes.result.now c.loop-shape.number c.loop-shape.shape-index c.args.shapes.now _ c.loop-shape.rest.now c.split_at.result.0.now c.split_at.result.1.now c.loop-shape-test.true c.split_at.ensures.front c.split_at.ensures.back (node_sent c.loop-shape.number _ c.split_at.result.0.now _ c.count_references.result _ c.as_bytes.result.now (c.as_bytes.ensures ∙ c.put_object_node.ensures) c.split_at.ensures.front_len refl c.count_references.ensures.count) c.loop-shape.invariant.sent c.in_ok-send.ensures.ok;
  filled = total_more c.args.shapes.now _ c.loop-shape.shape-index (length c.loop-shape.rest.now) (length c.split_at.result.1.now) c.loop-shape-test.true c.loop-shape.invariant.filled c.split_at.ensures.back_len;
  number = omega (arith, c.loop-shape.invariant.number);
  none_failed = c.in_ok-send.ensures.none_failed;
  counted = made_more c.args.writes.now c.loop-shape.writes c.send.new.writes c.loop-shape.invariant.counted c.send.ensures.counted;
}

pub loop-shape-init : goal.loop-shape-init
loop-shape-init g c = record {
  sent = Sent-begin (g.W.Write.contents c.args.writer.now) (nodes_text 0 c.args.shapes.now c.args.values.now);
  filled = c.requires.filled;
  number = refl;
  none_failed = c.requires.none_failed;
  counted = made_none c.args.writes.now;
}

pub send-requires : goal.send-requires
send-requires g c = c.loop-shape.invariant.none_failed

pub returns-in_err-send-clause-ok : goal.returns-in_err-send-clause-ok
returns-in_err-send-clause-ok g c = err_ok _ c.from_residual.result c.from_residual.ensures.0

pub returns-in_err-send-clause-none_failed : goal.returns-in_err-send-clause-none_failed
returns-in_err-send-clause-none_failed g c = err_ok _ c.from_residual.result c.from_residual.ensures.0

pub returns-in_err-send-clause-failed : goal.returns-in_err-send-clause-failed
returns-in_err-send-clause-failed g c = err_err c.from_residual.result c.in_err-send.ensures.failed

pub returns-in_err-send-clause-spent : goal.returns-in_err-send-clause-spent
returns-in_err-send-clause-spent g c = err_err c.from_residual.result (spent_more c.args.writes.now c.loop-shape.writes c.send.new.writes c.loop-shape.invariant.counted c.in_err-send.ensures.failed c.send.ensures.counted)

pub returns-in_err-send-clause-counted : goal.returns-in_err-send-clause-counted
returns-in_err-send-clause-counted g c = made_more c.args.writes.now c.loop-shape.writes c.send.new.writes c.loop-shape.invariant.counted c.send.ensures.counted

pub returns-clause-ok : goal.returns-clause-ok
returns-clause-ok g c = Sent-all (g.W.Write.contents c.args.writer.now) (g.W.Write.contents c.loop-shape.writer) (nodes_text 0 c.args.shapes.now c.args.values.now) (nodes_text c.loop-shape.number (drop c.loop-shape.shape-index c.args.shapes.now) c.loop-shape.rest.now) (ap (λ (shapes : List Shape). nodes_text c.loop-shape.number shapes c.loop-shape.rest.now) (drop_all c.loop-shape.shape-index c.args.shapes.now c.loop-shape-test.false)) c.loop-shape.invariant.sent

pub returns-clause-err : goal.returns-clause-err
returns-clause-err g c = tt

pub returns-clause-failed : goal.returns-clause-failed
returns-clause-failed g c = tt

pub returns-clause-spent : goal.returns-clause-spent
returns-clause-spent g c = tt

pub returns-clause-none_failed : goal.returns-clause-none_failed
returns-clause-none_failed g c = c.loop-shape.invariant.none_failed

pub returns-clause-counted : goal.returns-clause-counted
returns-clause-counted g c = c.loop-shape.invariant.counted
