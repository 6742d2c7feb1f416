use Rattle.std.proofs.Common.{drop, ap, ◌∙◌}
use Rattle.std.proofs.lemmas.Result.{err_from_is_err_and}
use Rattle.std.proofs.lemmas.List.{drop_all}
use Rattle.rh_dump.proofs.texts.Counts.{made_none, made_more, spent_more, err_ok, err_err}
use Rattle.rh_dump.proofs.texts.Sending.{Sent-begin, Sent-all, loop_next, loop_less}
use Rattle.rh_dot.proofs.Parts.{roots_text, root_part, roots_step}
use Rattle.rh_dot.proofs.writing.write_roots.Goals as goal

pub returns-in_err-send-clause-err : goal.returns-in_err-send-clause-err
returns-in_err-send-clause-err g c =
    let known = g.W.Write.contents in
    let p = err_from_is_err_and c.from_residual.result c.from_residual.ensures.1 in
    let roots = c.args.roots.now in
    rw p.1 (loop_less roots_text root_part roots_step (known c.args.writer.now) (known c.loop-entry.writer) (known c.send.new.writer) (roots_text roots) c.as_bytes.result.now roots c.loop-entry.entry-index _ c.loop-entry-test.true (c.as_bytes.ensures ∙ c.put_root_lines.ensures) c.loop-entry.invariant.sent c.in_err-send.ensures.err)

pub loop-entry-preserved : goal.loop-entry-preserved
loop-entry-preserved g c =
    let known = g.W.Write.contents in
    let roots = c.args.roots.now in
    record {
      sent = loop_next roots_text root_part roots_step (known c.args.writer.now) (known c.loop-entry.writer) (known c.send.new.writer) (roots_text roots) c.as_bytes.result.now roots c.loop-entry.entry-index _ c.loop-entry-test.true (c.as_bytes.ensures ∙ c.put_root_lines.ensures) c.loop-entry.invariant.sent c.in_ok-send.ensures.ok;
      none_failed = c.in_ok-send.ensures.none_failed;
      counted = made_more c.args.writes.now c.loop-entry.writes c.send.new.writes c.loop-entry.invariant.counted c.send.ensures.counted;
    }

pub loop-entry-init : goal.loop-entry-init
loop-entry-init g c = record {
  sent = Sent-begin (g.W.Write.contents c.args.writer.now) (roots_text c.args.roots.now);
  none_failed = c.requires;
  counted = made_none c.args.writes.now;
}

pub send-requires : goal.send-requires
send-requires g c = c.loop-entry.invariant.none_failed

pub returns-in_err-send-clause-ok : goal.returns-in_err-send-clause-ok
returns-in_err-send-clause-ok g c = err_ok _ c.from_residual.result c.from_residual.ensures.0

pub returns-in_err-send-clause-failed : goal.returns-in_err-send-clause-failed
returns-in_err-send-clause-failed g c = err_err c.from_residual.result c.in_err-send.ensures.failed

pub returns-in_err-send-clause-none_failed : goal.returns-in_err-send-clause-none_failed
returns-in_err-send-clause-none_failed g c = err_ok _ c.from_residual.result c.from_residual.ensures.0

pub returns-clause-ok : goal.returns-clause-ok
returns-clause-ok g c =
    let known = g.W.Write.contents in
    let roots = c.args.roots.now in
    let rest = drop c.loop-entry.entry-index roots in
    let none = ap roots_text (drop_all c.loop-entry.entry-index roots c.loop-entry-test.false) in
    Sent-all (known c.args.writer.now) (known c.loop-entry.writer) (roots_text roots) (roots_text rest) none c.loop-entry.invariant.sent

pub returns-clause-err : goal.returns-clause-err
returns-clause-err g c = tt

pub returns-clause-failed : goal.returns-clause-failed
returns-clause-failed g c = tt

pub returns-clause-none_failed : goal.returns-clause-none_failed
returns-clause-none_failed g c = c.loop-entry.invariant.none_failed

pub returns-in_err-send-clause-spent : goal.returns-in_err-send-clause-spent
returns-in_err-send-clause-spent g c =
    err_err c.from_residual.result (spent_more c.args.writes.now c.loop-entry.writes c.send.new.writes c.loop-entry.invariant.counted c.in_err-send.ensures.failed c.send.ensures.counted)

pub returns-in_err-send-clause-counted : goal.returns-in_err-send-clause-counted
returns-in_err-send-clause-counted g c = made_more c.args.writes.now c.loop-entry.writes c.send.new.writes c.loop-entry.invariant.counted c.send.ensures.counted

pub returns-clause-spent : goal.returns-clause-spent
returns-clause-spent g c = tt

pub returns-clause-counted : goal.returns-clause-counted
returns-clause-counted g c = c.loop-entry.invariant.counted
