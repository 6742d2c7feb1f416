use Rattle.std.proofs.Common.{◌+◌, length, refl, ap, arith}
use Rattle.rh_replay.proofs.Replays.{first_wrong, played_more, right_more}
use Rattle.rh_replay.proofs.checking.check.Goals as goal

pub overflow_add-count : goal.overflow_add-count
overflow_add-count g c = omega (arith, c.loop-call.invariant.count, c.loop-call-test.true, c.calls-calls.ensures.history.few_calls, ap length c.calls-calls.ensures.calls)

pub loop-call-preserved : goal.loop-call-preserved
loop-call-preserved g c =
    let h = c.args.history.now.contents in
    let calls = c.calls-calls.result.now in
    let i = c.loop-call.call-index in
    let ok = c.in_ok-expected.ensures in
    record {
      played = played_more h calls i _ c.loop-call.plain c.answer_to.new.plain c.in_ok-expected.expected c.calls-calls.ensures.calls c.loop-call-test.true c.loop-call.invariant.played ok.state ok.answer;
      count = ap (λ n. n + 1) c.loop-call.invariant.count;
      right = right_more h calls i _ c.loop-call.plain c.answer_to.new.plain c.in_ok-expected.expected c.calls-calls.ensures.calls c.loop-call-test.true c.loop-call.invariant.played ok.state ok.answer (c.if-not-is_same_answer.ensures.0 refl) c.loop-call.invariant.right;
    }

pub returns-then-not-is_same_answer : goal.returns-then-not-is_same_answer
returns-then-not-is_same_answer g c =
    let ok = c.in_ok-expected.ensures in
    first_wrong c.args.history.now.contents c.calls-calls.result.now c.loop-call.call-index _ c.loop-call.plain c.answer_to.new.plain c.in_ok-expected.expected c.calls-calls.ensures.calls c.loop-call-test.true c.loop-call.invariant.played ok.state ok.answer
    (λ same. let told = c.if-not-is_same_answer.ensures.1 same in absurd cc) c.loop-call.invariant.right _ (ap (λ n. n + 1) c.loop-call.invariant.count)
