use Rattle.std.proofs.Common.{List, length, drop, ap, refl, arith}
use Rattle.std.proofs.lemmas.Result.{err_from_is_err_and}
use Rattle.std.proofs.lemmas.List.{drop_all}
use Rattle.rh_layout.specs.declared.shape.Shape.{Shape}
use Rattle.rh_dump.proofs.texts.Counts.{made_none, made_after, spent_after, err_ok, err_err}
use Rattle.rh_dump.proofs.texts.Sending.{Sent-begin, Sent-all, total_more}
use Rattle.rh_dot.proofs.Parts.{objects_text, objects_next, objects_less}
use Rattle.rh_dot.proofs.writing.write_objects.Goals as goal

pub returns-in_err-write_object-clause-err : goal.returns-in_err-write_object-clause-err
returns-in_err-write_object-clause-err g c =
    let known = g.W.Write.contents in
    let p = err_from_is_err_and c.from_residual.result c.from_residual.ensures.1 in
    let s = c.split_at.result in
    rw p.1 (objects_less (known c.args.writer.now) (known c.loop-shape.writer) (known c.write_object.new.writer) (objects_text 0 c.args.shapes.now c.args.values.now) c.loop-shape.number c.loop-shape.shape-index c.args.shapes.now _ c.loop-shape.rest.now s.0.now s.1.now c.loop-shape-test.true c.split_at.ensures.front c.split_at.ensures.back c.loop-shape.invariant.sent c.in_err-write_object.ensures.err)

pub loop-shape-preserved : goal.loop-shape-preserved
loop-shape-preserved g c =
    let known = g.W.Write.contents in
    let s = c.split_at.result in
    record {
      sent = objects_next (known c.args.writer.now) (known c.loop-shape.writer) (known c.write_object.new.writer) (objects_text 0 c.args.shapes.now c.args.values.now) c.loop-shape.number c.loop-shape.shape-index c.args.shapes.now _ c.loop-shape.rest.now s.0.now s.1.now c.loop-shape-test.true c.split_at.ensures.front c.split_at.ensures.back c.loop-shape.invariant.sent c.in_ok-write_object.ensures.ok;
      filled = total_more c.args.shapes.now _ c.loop-shape.shape-index (length c.loop-shape.rest.now) (length s.1.now) c.loop-shape-test.true c.loop-shape.invariant.filled c.split_at.ensures.back_len;
      number = omega (arith, c.loop-shape.invariant.number);
      none_failed = c.in_ok-write_object.ensures.none_failed;
      counted = made_after c.args.writes.now c.loop-shape.writes c.write_object.new.writes c.loop-shape.invariant.counted c.write_object.ensures.counted;
    }

pub loop-shape-init : goal.loop-shape-init
loop-shape-init g c = record {
  sent = Sent-begin (g.W.Write.contents c.args.writer.now) (objects_text 0 c.args.shapes.now c.args.values.now);
  filled = c.requires.filled;
  number = refl;
  none_failed = c.requires.none_failed;
  counted = made_none c.args.writes.now;
}

pub write_object-requires : goal.write_object-requires
write_object-requires g c = c.loop-shape.invariant.none_failed

pub returns-in_err-write_object-clause-ok : goal.returns-in_err-write_object-clause-ok
returns-in_err-write_object-clause-ok g c = err_ok _ c.from_residual.result c.from_residual.ensures.0

pub returns-in_err-write_object-clause-failed : goal.returns-in_err-write_object-clause-failed
returns-in_err-write_object-clause-failed g c = err_err c.from_residual.result c.in_err-write_object.ensures.failed

pub returns-in_err-write_object-clause-none_failed : goal.returns-in_err-write_object-clause-none_failed
returns-in_err-write_object-clause-none_failed g c = err_ok _ c.from_residual.result c.from_residual.ensures.0

pub returns-clause-ok : goal.returns-clause-ok
returns-clause-ok g c =
    let known = g.W.Write.contents in
    let number = c.loop-shape.number in
    let shapes = drop c.loop-shape.shape-index c.args.shapes.now in
    let values = c.loop-shape.rest.now in
    let text = objects_text 0 c.args.shapes.now c.args.values.now in
    let none = ap (λ (s : List Shape). objects_text number s values) (drop_all c.loop-shape.shape-index c.args.shapes.now c.loop-shape-test.false) in
    Sent-all (known c.args.writer.now) (known c.loop-shape.writer) text (objects_text number shapes values) none c.loop-shape.invariant.sent

pub returns-clause-err : goal.returns-clause-err
returns-clause-err g c = tt

pub returns-clause-failed : goal.returns-clause-failed
returns-clause-failed g c = tt

pub returns-clause-none_failed : goal.returns-clause-none_failed
returns-clause-none_failed g c = c.loop-shape.invariant.none_failed

pub returns-in_err-write_object-clause-spent : goal.returns-in_err-write_object-clause-spent
returns-in_err-write_object-clause-spent g c =
    err_err c.from_residual.result (spent_after c.args.writes.now c.loop-shape.writes c.write_object.new.writes c.loop-shape.invariant.counted c.in_err-write_object.ensures.spent)

pub returns-in_err-write_object-clause-counted : goal.returns-in_err-write_object-clause-counted
returns-in_err-write_object-clause-counted g c =
    made_after c.args.writes.now c.loop-shape.writes c.write_object.new.writes c.loop-shape.invariant.counted c.write_object.ensures.counted

pub returns-clause-spent : goal.returns-clause-spent
returns-clause-spent g c = tt

pub returns-clause-counted : goal.returns-clause-counted
returns-clause-counted g c = c.loop-shape.invariant.counted
