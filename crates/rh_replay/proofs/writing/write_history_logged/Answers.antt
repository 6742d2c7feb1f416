use Rattle.std.proofs.Common.{◌≡◌, ◌++◌, take, length, ap, subst, sym, ◌∙◌, append_assoc, arith}
use Rattle.std.proofs.lemmas.List.{append-nil}
use Rattle.std.specs.List.{flat_map}
use Rattle.std.specs.Io.KnownBytes.{Appends}
use Rattle.std.proofs.lemmas.List.{take_all}
use Rattle.std.proofs.lemmas.Result.{err_from_is_err_and}
use Rattle.rh_text.specs.Output.{AppendsLess}
use Rattle.rh_text.specs.lemmas.Appends.{less_of_prefix, less-more, sent_next, sent_less_of_next, Appends-then, Appends-at, Appends-less}
use Rattle.rh_replay.specs.Spelling.{header_line, call_line, end_line, spelling}
use Rattle.rh_replay.proofs.writing.write_history_logged.Goals as goal

pub returns-in_err-send-clause-err : goal.returns-in_err-send-clause-err
returns-in_err-send-clause-err g c =
    let known = g.W.Write.contents in
    let h = c.args.history.now.contents in
    let p = err_from_is_err_and c.from_residual.result c.from_residual.ensures.1 in
    let text : c.as_bytes.result.now ≡ header_line h.owners h.slots = c.as_bytes.ensures ∙ c.put_header.ensures ∙ ap (λ n. header_line n c.slots.result) c.owners.ensures.value ∙ ap (header_line h.owners) c.slots.ensures.value in
    rw p.1 (less_of_prefix (known c.args.writer.now) (known c.send.new.writer) c.as_bytes.result.now (header_line h.owners h.slots) (flat_map call_line h.calls ++ end_line (length h.calls)) text c.in_err-send.ensures.err)

pub loop-call-init : goal.loop-call-init
loop-call-init g c =
    let known = g.W.Write.contents in
    let h = c.args.history.now.contents in
    let text : c.as_bytes.result.now ≡ header_line h.owners h.slots ++ flat_map call_line (take 0 c.calls-calls.result.now) = c.as_bytes.ensures ∙ c.put_header.ensures ∙ ap (λ n. header_line n c.slots.result) c.owners.ensures.value ∙ ap (header_line h.owners) c.slots.ensures.value ∙ sym (append-nil (header_line h.owners h.slots)) in
    record {
      sent = Appends-at (known c.args.writer.now) (known c.send.new.writer) c.as_bytes.result.now (header_line h.owners h.slots ++ flat_map call_line (take 0 c.calls-calls.result.now)) text c.in_ok-send.ensures.ok;
      none_failed = c.in_ok-send.ensures.none_failed;
      counted = grind (arith, c.in_ok-send.ensures.counted);
    }

pub returns-in_err-send-2-clause-err : goal.returns-in_err-send-2-clause-err
returns-in_err-send-2-clause-err g c =
    let known = g.W.Write.contents in
    let h = c.args.history.now.contents in
    let p = err_from_is_err_and c.from_residual-in_err-send-2.result c.from_residual-in_err-send-2.ensures.1 in
    let first = header_line h.owners h.slots in
    let last = end_line (length h.calls) in
    let less = sent_less_of_next call_line (known c.args.writer.now) (known c.loop-call.writer) (known c.send-in-loop-call.new.writer) first c.as_bytes-in-loop-call.result.now c.calls-calls.result.now c.loop-call.call-index _ c.loop-call-test.true (c.as_bytes-in-loop-call.ensures ∙ c.put_call.ensures) c.loop-call.invariant.sent c.in_err-send-2.ensures.err in
    let text : (first ++ flat_map call_line c.calls-calls.result.now) ++ last ≡ spelling h = append_assoc first (flat_map call_line c.calls-calls.result.now) last ∙ ap (λ calls. first ++ (flat_map call_line calls ++ last)) c.calls-calls.ensures.calls in
    rw p.1 (subst (AppendsLess (known c.args.writer.now) (known c.send-in-loop-call.new.writer)) text (less-more (known c.args.writer.now) (known c.send-in-loop-call.new.writer) (first ++ flat_map call_line c.calls-calls.result.now) last less))

pub loop-call-preserved : goal.loop-call-preserved
loop-call-preserved g c =
    let known = g.W.Write.contents in
    let h = c.args.history.now.contents in
    record {
      sent = sent_next call_line (known c.args.writer.now) (known c.loop-call.writer) (known c.send-in-loop-call.new.writer) (header_line h.owners h.slots) c.as_bytes-in-loop-call.result.now c.calls-calls.result.now c.loop-call.call-index _ c.loop-call-test.true (c.as_bytes-in-loop-call.ensures ∙ c.put_call.ensures) c.loop-call.invariant.sent c.in_ok-send-2.ensures.ok;
      none_failed = c.in_ok-send-2.ensures.none_failed;
      counted = grind (arith, c.in_ok-send-2.ensures.counted, c.loop-call.invariant.counted);
    }

pub returns-in_err-send-3-clause-err : goal.returns-in_err-send-3-clause-err
returns-in_err-send-3-clause-err g c =
    let known = g.W.Write.contents in
    let h = c.args.history.now.contents in
    let p = err_from_is_err_and c.from_residual-in_err-send-3.result c.from_residual-in_err-send-3.ensures.1 in
    let first = header_line h.owners h.slots in
    let calls = c.calls-calls.result.now in
    let last = end_line (length h.calls) in
    let whole : take c.loop-call.call-index calls ≡ calls = take_all c.loop-call.call-index calls c.loop-call-test.false in
    let sent : Appends (known c.args.writer.now) (known c.loop-call.writer) (first ++ flat_map call_line calls) = Appends-at (known c.args.writer.now) (known c.loop-call.writer) (first ++ flat_map call_line (take c.loop-call.call-index calls)) (first ++ flat_map call_line calls) (ap (λ cs. first ++ flat_map call_line cs) whole) c.loop-call.invariant.sent in
    let end : c.as_bytes-2.result.now ≡ last = c.as_bytes-2.ensures ∙ c.put_end.ensures ∙ ap (λ cs. end_line (length cs)) c.calls-calls.ensures.calls in
    let less = subst (AppendsLess (known c.loop-call.writer) (known c.send-2.new.writer)) end c.in_err-send-3.ensures.err in
    let text : (first ++ flat_map call_line calls) ++ last ≡ spelling h = append_assoc first (flat_map call_line calls) last ∙ ap (λ cs. first ++ (flat_map call_line cs ++ last)) c.calls-calls.ensures.calls in
    rw p.1 (subst (AppendsLess (known c.args.writer.now) (known c.send-2.new.writer)) text (Appends-less (known c.args.writer.now) (known c.loop-call.writer) (known c.send-2.new.writer) (first ++ flat_map call_line calls) last sent less))

pub returns-clause-ok : goal.returns-clause-ok
returns-clause-ok g c =
    let known = g.W.Write.contents in
    let h = c.args.history.now.contents in
    let first = header_line h.owners h.slots in
    let calls = c.calls-calls.result.now in
    let last = end_line (length h.calls) in
    let whole : take c.loop-call.call-index calls ≡ calls = take_all c.loop-call.call-index calls c.loop-call-test.false in
    let sent : Appends (known c.args.writer.now) (known c.loop-call.writer) (first ++ flat_map call_line calls) = Appends-at (known c.args.writer.now) (known c.loop-call.writer) (first ++ flat_map call_line (take c.loop-call.call-index calls)) (first ++ flat_map call_line calls) (ap (λ cs. first ++ flat_map call_line cs) whole) c.loop-call.invariant.sent in
    let end : c.as_bytes-2.result.now ≡ last = c.as_bytes-2.ensures ∙ c.put_end.ensures ∙ ap (λ cs. end_line (length cs)) c.calls-calls.ensures.calls in
    let more = Appends-at (known c.loop-call.writer) (known c.send-2.new.writer) c.as_bytes-2.result.now last end c.in_ok-send-3.ensures.ok in
    let text : (first ++ flat_map call_line calls) ++ last ≡ spelling h = append_assoc first (flat_map call_line calls) last ∙ ap (λ cs. first ++ (flat_map call_line cs ++ last)) c.calls-calls.ensures.calls in
    Appends-at (known c.args.writer.now) (known c.send-2.new.writer) ((first ++ flat_map call_line calls) ++ last) (spelling h) text (Appends-then (known c.args.writer.now) (known c.loop-call.writer) (known c.send-2.new.writer) (first ++ flat_map call_line calls) last sent more)
