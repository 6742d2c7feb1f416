use Rattle.std.proofs.Common.{◌≡◌, ◌++◌, ap, subst, ◌∙◌, arith}
use Rattle.std.proofs.lemmas.Result.{err_from_is_err_and}
use Rattle.rh_text.specs.Output.{AppendsLess}
use Rattle.rh_text.specs.lemmas.Appends.{Appends-then, Appends-at, Appends-less}
use Rattle.rh_replay.specs.Report.{owner_line, owner_lines, verdict_line, report_text}
use Rattle.rh_replay.proofs.OwnerLines.{owner_sent, owner_less}
use Rattle.rh_replay.proofs.writing.report_logged.Goals as goal

pub returns-in_err-send-clause-err : goal.returns-in_err-send-clause-err
returns-in_err-send-clause-err g c =
    let known = g.W.Write.contents in
    let h = c.args.history.now.contents in
    let last = verdict_line c.args.verdict.now in
    let calls = c.calls-calls.result.now in
    let p = err_from_is_err_and c.from_residual.result c.from_residual.ensures.1 in
    let line : c.as_bytes.result.now ≡ owner_line c.loop-owner.owner c.count_of.result = c.as_bytes.ensures ∙ c.put_owner.ensures in
    let less = owner_less (known c.args.writer.now) (known c.loop-owner.writer) (known c.send.new.writer) calls c.loop-owner.owner c.as_bytes.result.now (line ∙ ap (owner_line c.loop-owner.owner) c.count_of.ensures) c.loop-owner.invariant.sent c.owners-owners.result last c.loop-owner-test.true c.in_err-send.ensures.err in
    let text : owner_lines calls c.owners-owners.result ++ last ≡ report_text h c.args.verdict.now = ap (λ n. owner_lines calls n ++ last) c.owners-owners.ensures.value ∙ ap (λ cs. owner_lines cs h.owners ++ last) c.calls-calls.ensures.calls in
    rw p.1 (subst (AppendsLess (known c.args.writer.now) (known c.send.new.writer)) text less)

pub loop-owner-preserved : goal.loop-owner-preserved
loop-owner-preserved g c =
    let known = g.W.Write.contents in
    let calls = c.calls-calls.result.now in
    let line : c.as_bytes.result.now ≡ owner_line c.loop-owner.owner c.count_of.result = c.as_bytes.ensures ∙ c.put_owner.ensures in
    record {
      sent = owner_sent (known c.args.writer.now) (known c.loop-owner.writer) (known c.send.new.writer) calls c.loop-owner.owner c.as_bytes.result.now (line ∙ ap (owner_line c.loop-owner.owner) c.count_of.ensures) c.loop-owner.invariant.sent c.in_ok-send.ensures.ok;
      none_failed = c.in_ok-send.ensures.none_failed;
      counted = grind (arith, c.in_ok-send.ensures.counted, c.loop-owner.invariant.counted);
    }

pub returns-in_err-send-2-clause-err : goal.returns-in_err-send-2-clause-err
returns-in_err-send-2-clause-err g c =
    let known = g.W.Write.contents in
    let h = c.args.history.now.contents in
    let last = verdict_line c.args.verdict.now in
    let calls = c.calls-calls.result.now in
    let p = err_from_is_err_and c.from_residual-in_err-send-2.result c.from_residual-in_err-send-2.ensures.1 in
    let end : c.loop-owner.owner ≡ c.owners-owners.result = omega (arith, c.loop-owner-test.false, c.loop-owner.auto.owner-end) in
    let text : owner_lines calls c.loop-owner.owner ++ last ≡ report_text h c.args.verdict.now = ap (λ n. owner_lines calls n ++ last) (end ∙ c.owners-owners.ensures.value) ∙ ap (λ cs. owner_lines cs h.owners ++ last) c.calls-calls.ensures.calls in
    let less = subst (AppendsLess (known c.loop-owner.writer) (known c.send-2.new.writer)) (c.as_bytes-2.ensures ∙ c.put_verdict.ensures) c.in_err-send-2.ensures.err in
    rw p.1 (subst (AppendsLess (known c.args.writer.now) (known c.send-2.new.writer)) text (Appends-less (known c.args.writer.now) (known c.loop-owner.writer) (known c.send-2.new.writer) (owner_lines calls c.loop-owner.owner) last c.loop-owner.invariant.sent less))

pub returns-clause-ok : goal.returns-clause-ok
returns-clause-ok g c =
    let known = g.W.Write.contents in
    let h = c.args.history.now.contents in
    let last = verdict_line c.args.verdict.now in
    let calls = c.calls-calls.result.now in
    let end : c.loop-owner.owner ≡ c.owners-owners.result = omega (arith, c.loop-owner-test.false, c.loop-owner.auto.owner-end) in
    let text : owner_lines calls c.loop-owner.owner ++ last ≡ report_text h c.args.verdict.now = ap (λ n. owner_lines calls n ++ last) (end ∙ c.owners-owners.ensures.value) ∙ ap (λ cs. owner_lines cs h.owners ++ last) c.calls-calls.ensures.calls in
    let more = Appends-at (known c.loop-owner.writer) (known c.send-2.new.writer) c.as_bytes-2.result.now last (c.as_bytes-2.ensures ∙ c.put_verdict.ensures) c.in_ok-send-2.ensures.ok in
    Appends-at (known c.args.writer.now) (known c.send-2.new.writer) (owner_lines calls c.loop-owner.owner ++ last) (report_text h c.args.verdict.now) text (Appends-then (known c.args.writer.now) (known c.loop-owner.writer) (known c.send-2.new.writer) (owner_lines calls c.loop-owner.owner) last c.loop-owner.invariant.sent more)
