use Rattle.std.proofs.Common.{drop, ap, ◌∙◌}
use Rattle.std.proofs.lemmas.Result.{err_from_is_err_and}
use Rattle.std.proofs.lemmas.List.{drop_all}
use Rattle.rh_dump.proofs.texts.Sending.{Sent-begin, Sent-all, loop_next, loop_less}
use Rattle.rh_why.specs.Path.{step_text}
use Rattle.rh_why.proofs.Texts.{steps_step, steps_text}
use Rattle.rh_dump.proofs.texts.Counts.{err_ok, err_err}
use Rattle.rh_why.proofs.writing.write_steps.Goals as goal

pub returns-in_err-send-clause-err : goal.returns-in_err-send-clause-err
returns-in_err-send-clause-err g c =
    let p = err_from_is_err_and c.from_residual.result c.from_residual.ensures.1 in
    rw p.1 (loop_less steps_text step_text steps_step (g.W.Write.contents c.args.writer.now) (g.W.Write.contents c.loop-step.writer) (g.W.Write.contents c.send.new.writer) (steps_text c.args.steps.now) c.as_bytes.result.now c.args.steps.now c.loop-step.step-index _ c.loop-step-test.true (c.as_bytes.ensures ∙ c.put_step.ensures) c.loop-step.invariant.sent c.in_err-send.ensures.err)

pub loop-step-preserved : goal.loop-step-preserved
loop-step-preserved g c = record {
  sent = loop_next steps_text step_text steps_step (g.W.Write.contents c.args.writer.now) (g.W.Write.contents c.loop-step.writer) (g.W.Write.contents c.send.new.writer) (steps_text c.args.steps.now) c.as_bytes.result.now c.args.steps.now c.loop-step.step-index _ c.loop-step-test.true (c.as_bytes.ensures ∙ c.put_step.ensures) c.loop-step.invariant.sent c.in_ok-send.ensures.ok;
  none_failed = c.in_ok-send.ensures.none_failed;
}

pub loop-step-init : goal.loop-step-init
loop-step-init g c = record {
  sent = Sent-begin (g.W.Write.contents c.args.writer.now) (steps_text c.args.steps.now);
  none_failed = c.requires;
}

pub send-requires : goal.send-requires
send-requires g c = c.loop-step.invariant.none_failed

pub returns-in_err-send-clause-ok : goal.returns-in_err-send-clause-ok
returns-in_err-send-clause-ok g c = err_ok _ c.from_residual.result c.from_residual.ensures.0

pub returns-in_err-send-clause-none_failed : goal.returns-in_err-send-clause-none_failed
returns-in_err-send-clause-none_failed g c = err_ok _ c.from_residual.result c.from_residual.ensures.0

pub returns-in_err-send-clause-failed : goal.returns-in_err-send-clause-failed
returns-in_err-send-clause-failed g c = err_err c.from_residual.result c.in_err-send.ensures.failed

pub returns-clause-ok : goal.returns-clause-ok
returns-clause-ok g c = Sent-all (g.W.Write.contents c.args.writer.now) (g.W.Write.contents c.loop-step.writer) (steps_text c.args.steps.now) (steps_text (drop c.loop-step.step-index c.args.steps.now)) (ap steps_text (drop_all c.loop-step.step-index c.args.steps.now c.loop-step-test.false)) c.loop-step.invariant.sent

pub returns-clause-err : goal.returns-clause-err
returns-clause-err g c = tt

pub returns-clause-failed : goal.returns-clause-failed
returns-clause-failed g c = tt

pub returns-clause-none_failed : goal.returns-clause-none_failed
returns-clause-none_failed g c = c.loop-step.invariant.none_failed
