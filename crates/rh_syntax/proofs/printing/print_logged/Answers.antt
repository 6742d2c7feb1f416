use Rattle.std.proofs.Common.{◌++◌, ap, subst, ◌∙◌, arith}
use Rattle.std.specs.List.{flat_map}
use Rattle.std.proofs.lemmas.Result.{err_from_is_err_and}
use Rattle.rh_text.specs.Output.{AppendsLess}
use Rattle.rh_text.specs.lemmas.Appends.{less_of_prefix, sent_next, sent_less_of_next}
use Rattle.rh_syntax.specs.Spelling.{spell_request, spell_header}
use Rattle.rh_syntax.proofs.printing.print_logged.Goals as goal

pub returns-in_err-send-clause-err : goal.returns-in_err-send-clause-err
returns-in_err-send-clause-err g c =
    let known = g.W.Write.contents in
    let p = err_from_is_err_and c.from_residual.result c.from_residual.ensures.1 in
    let script = c.args.trace.now in
    rw p.1 (less_of_prefix (known c.args.writer.now) (known c.send.new.writer) c.as_bytes.result.now (spell_header script.header) (flat_map spell_request script.requests) (c.as_bytes.ensures ∙ c.put_header.ensures ∙ ap spell_header c.header.ensures) c.in_err-send.ensures.err)

pub returns-in_err-send-2-clause-err : goal.returns-in_err-send-2-clause-err
returns-in_err-send-2-clause-err g c =
    let known = g.W.Write.contents in
    let p = err_from_is_err_and c.from_residual-in_err-send-2.result c.from_residual-in_err-send-2.ensures.1 in
    let script = c.args.trace.now in
    let less = sent_less_of_next spell_request (known c.args.writer.now) (known c.loop-request.writer) (known c.send-in-loop-request.new.writer) (spell_header script.header) c.as_bytes-in-loop-request.result.now c.requests-requests.result.now c.loop-request.request-index _ c.loop-request-test.true (c.as_bytes-in-loop-request.ensures ∙ c.put_request.ensures ∙ ap spell_request c.request-item.is) c.loop-request.invariant.sent c.in_err-send-2.ensures.err in
    rw p.1 (subst (λ requests. AppendsLess (known c.args.writer.now) (known c.send-in-loop-request.new.writer) (spell_header script.header ++ flat_map spell_request requests)) c.requests-requests.ensures less)

pub loop-request-preserved : goal.loop-request-preserved
loop-request-preserved g c =
    let known = g.W.Write.contents in
    record {
      sent = sent_next spell_request (known c.args.writer.now) (known c.loop-request.writer) (known c.send-in-loop-request.new.writer) (spell_header c.args.trace.now.header) c.as_bytes-in-loop-request.result.now c.requests-requests.result.now c.loop-request.request-index _ c.loop-request-test.true (c.as_bytes-in-loop-request.ensures ∙ c.put_request.ensures ∙ ap spell_request c.request-item.is) c.loop-request.invariant.sent c.in_ok-send-2.ensures.ok;
      none_failed = c.in_ok-send-2.ensures.none_failed;
      counted = grind (arith, c.in_ok-send-2.ensures.counted, c.loop-request.invariant.counted);
    }
