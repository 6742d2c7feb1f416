use Rattle.std.proofs.Common.{List, length, drop, ap}
use Rattle.std.proofs.lemmas.Result.{err_from_is_err_and}
use Rattle.std.proofs.lemmas.List.{drop_all}
use Rattle.rh_layout.specs.declared.shape.Shape.{Shape}
use Rattle.rh_dump.proofs.texts.Sending.{Sent-begin, Sent-all, total_more}
use Rattle.rh_snapshot.proofs.Parts.{objects_less, objects_next, objects_text}
use Rattle.rh_dump.proofs.texts.Counts.{made_none, made_after, spent_after, err_ok, err_err}
use Rattle.rh_snapshot.proofs.writing.write_object_edges.Goals as goal

pub returns-in_err-write_edges-clause-err : goal.returns-in_err-write_edges-clause-err
returns-in_err-write_edges-clause-err g c =
    let p = err_from_is_err_and c.from_residual.result c.from_residual.ensures.1 in
    rw p.1 (objects_less (g.W.Write.contents c.args.writer.now) (g.W.Write.contents c.loop-shape.writer) (g.W.Write.contents c.write_edges.new.writer) (objects_text c.args.shapes.now c.args.values.now) c.loop-shape.shape-index c.args.shapes.now _ c.loop-shape.rest.now c.split_at.result.0.now c.split_at.result.1.now c.loop-shape-test.true c.split_at.ensures.front c.split_at.ensures.back c.loop-shape.invariant.sent c.in_err-write_edges.ensures.err)

pub loop-shape-preserved : goal.loop-shape-preserved
loop-shape-preserved g c = record {
  sent = objects_next (g.W.Write.contents c.args.writer.now) (g.W.Write.contents c.loop-shape.writer) (g.W.Write.contents c.write_edges.new.writer) (objects_text c.args.shapes.now c.args.values.now) c.loop-shape.shape-index c.args.shapes.now _ c.loop-shape.rest.now c.split_at.result.0.now c.split_at.result.1.now c.loop-shape-test.true c.split_at.ensures.front c.split_at.ensures.back c.loop-shape.invariant.sent c.in_ok-write_edges.ensures.ok;
  filled = total_more c.args.shapes.now _ c.loop-shape.shape-index (length c.loop-shape.rest.now) (length c.split_at.result.1.now) c.loop-shape-test.true c.loop-shape.invariant.filled c.split_at.ensures.back_len;
  none_failed = c.in_ok-write_edges.ensures.none_failed;
  counted = made_after c.args.writes.now c.loop-shape.writes c.write_edges.new.writes c.loop-shape.invariant.counted c.write_edges.ensures.counted;
}

pub loop-shape-init : goal.loop-shape-init
loop-shape-init g c = record {
  sent = Sent-begin (g.W.Write.contents c.args.writer.now) (objects_text c.args.shapes.now c.args.values.now);
  filled = c.requires.filled;
  none_failed = c.requires.none_failed;
  counted = made_none c.args.writes.now;
}

pub write_edges-requires : goal.write_edges-requires
write_edges-requires g c = c.loop-shape.invariant.none_failed

pub returns-in_err-write_edges-clause-ok : goal.returns-in_err-write_edges-clause-ok
returns-in_err-write_edges-clause-ok g c = err_ok _ c.from_residual.result c.from_residual.ensures.0

pub returns-in_err-write_edges-clause-none_failed : goal.returns-in_err-write_edges-clause-none_failed
returns-in_err-write_edges-clause-none_failed g c = err_ok _ c.from_residual.result c.from_residual.ensures.0

pub returns-in_err-write_edges-clause-failed : goal.returns-in_err-write_edges-clause-failed
returns-in_err-write_edges-clause-failed g c = err_err c.from_residual.result c.in_err-write_edges.ensures.failed

pub returns-in_err-write_edges-clause-spent : goal.returns-in_err-write_edges-clause-spent
returns-in_err-write_edges-clause-spent g c = err_err c.from_residual.result (spent_after c.args.writes.now c.loop-shape.writes c.write_edges.new.writes c.loop-shape.invariant.counted c.in_err-write_edges.ensures.spent)

pub returns-in_err-write_edges-clause-counted : goal.returns-in_err-write_edges-clause-counted
returns-in_err-write_edges-clause-counted g c = made_after c.args.writes.now c.loop-shape.writes c.write_edges.new.writes c.loop-shape.invariant.counted c.write_edges.ensures.counted

pub returns-clause-ok : goal.returns-clause-ok
returns-clause-ok g c = Sent-all (g.W.Write.contents c.args.writer.now) (g.W.Write.contents c.loop-shape.writer) (objects_text c.args.shapes.now c.args.values.now) (objects_text (drop c.loop-shape.shape-index c.args.shapes.now) c.loop-shape.rest.now) (ap (λ (shapes : List Shape). objects_text shapes c.loop-shape.rest.now) (drop_all c.loop-shape.shape-index c.args.shapes.now c.loop-shape-test.false)) c.loop-shape.invariant.sent

pub returns-clause-err : goal.returns-clause-err
returns-clause-err g c = tt

pub returns-clause-failed : goal.returns-clause-failed
returns-clause-failed g c = tt

pub returns-clause-spent : goal.returns-clause-spent
returns-clause-spent g c = tt

pub returns-clause-none_failed : goal.returns-clause-none_failed
returns-clause-none_failed g c = c.loop-shape.invariant.none_failed

pub returns-clause-counted : goal.returns-clause-counted
returns-clause-counted g c = c.loop-shape.invariant.counted
