use Rattle.std.proofs.Common.{rules, ◌≡◌, ◌+◌, ◌-◌, suc, List, length, take, Err, ap, subst, ◌∙◌, inl, arith}
use Rattle.std.proofs.lemmas.List.{take_all}
use Rattle.std.proofs.lemmas.Result.{err_from_is_err_and}
use Rattle.rh_syntax.specs.declared.request.Request.{Request}
use Rattle.rh_trace.specs.Answers.{is_answer, is_flip, is_refused}
use Rattle.rh_trace.proofs.AnswersInTurn.{bit_le}
use Rattle.rh_trace.proofs.LinesInTurn.{Played, Played-cut, Played-first, Played-next, Played-none, all-at, ended, ended_early, refused_at, stopped_in}
use Rattle.rh_trace.proofs.lines.run_lines.Goals as goal

pub loop-request-init : goal.loop-request-init
loop-request-init g c =
    let P = g.P.Player in
    let L = g.L.Listener in
    let begun = L.begun (L.state c.args.listener.now) c.args.header c.args.player.now in
    record {
      played = Played-first P.Steps P.total L.next L.show L.closing L.lead L.opening c.args.player.now begun (L.state c.begin.new.self) (L.contents c.args.out.now) (L.contents c.begin.new.out) c.in_ok-begin.ensures.state c.in_ok-begin.ensures.shown;
      line = omega arith;
      room = λ n e. subst (L.HasRoom c.begin.new.self) (omega (arith, e)) c.in_ok-begin.ensures.room;
      commands = omega arith;
      refused = omega arith;
      flips = omega arith;
      root_words = omega arith;
      none_failed = search rules;
      counted = c.begin.ensures.counted;
    }

pub play_line-requires-clause-plays : goal.play_line-requires-clause-plays
play_line-requires-clause-plays g c = all-at g.P.Player.Plays c.args.requests.now c.loop-request.request-index c.request-item.result c.request-item.result c.loop-request-test.true c.request-item.is c.requires.plays

pub play_line-requires-clause-room : goal.play_line-requires-clause-room
play_line-requires-clause-room g c =
    let n = length c.args.requests.now - (c.loop-request.request-index + 1) in
    (n, c.loop-request.invariant.room (suc n) (omega (arith, c.loop-request-test.true)))

pub loop-request-preserved : goal.loop-request-preserved
loop-request-preserved g c =
    let P = g.P.Player in
    let L = g.L.Listener in
    let l = c.loop-request in
    let new = c.play_line.new in
    let begun = L.begun (L.state c.args.listener.now) c.args.header c.args.player.now in
    let step = c.in-Ok.ensures.played in
    let x = step.0 in
    let sum = step.2 in
    record {
      played = Played-next P.Steps P.total L.next L.show L.closing L.lead L.opening c.args.player.now begun (L.contents c.args.out.now) l.player new.player (L.state l.listener) (L.state new.listener) l.counted new.summary (L.contents l.out) (L.contents new.out) c.args.requests.now l.request-index l.line c.request-item.result
          c.loop-request-test.true l.invariant.line c.request-item.is l.invariant.played step;
      line = omega (arith, l.invariant.line);
      room = λ n e. c.in-Ok.ensures.room n (l.invariant.room (suc n) (omega (arith, e)));
      commands = omega (arith, ap (λ s. s.commands) sum, bit_le (is_answer x), l.invariant.commands);
      refused = omega (arith, ap (λ s. s.refused) sum, bit_le (is_refused x), l.invariant.refused);
      flips = omega (arith, ap (λ s. s.flips) sum, bit_le (is_flip x), l.invariant.flips);
      root_words = omega (arith, c.play_line.ensures.few_roots, l.invariant.root_words);
      none_failed = search rules;
      counted = grind (arith, c.play_line.ensures.counted, l.invariant.counted);
    }

pub returns-in_err-begin-clause-ends : goal.returns-in_err-begin-clause-ends
returns-in_err-begin-clause-ends g c =
    let P = g.P.Player in
    let L = g.L.Listener in
    let begun = L.begun (L.state c.args.listener.now) c.args.header c.args.player.now in
    let p = err_from_is_err_and c.from_residual.result c.from_residual.ensures.1 in
    let cut = Played-none P.Steps P.total L.next L.show L.closing L.lead L.opening c.args.player.now begun (L.contents c.args.out.now) (L.contents c.begin.new.out) c.args.requests.now c.in_err-begin.ensures.shown in
    rw (p.1, p.2) (stopped_in P.Steps P.total L.next L.show L.closing L.lead L.opening L.NeedsMemory begun c.args.player.now c.args.requests.now c.in_err-begin.field-0.0 (L.contents c.args.out.now) (L.contents c.begin.new.out) (λ is. inl (c.in_err-begin.ensures.memory (ap Err is))) cut)

pub returns-in-Err-clause-ends : goal.returns-in-Err-clause-ends
returns-in-Err-clause-ends g c =
    let P = g.P.Player in
    let L = g.L.Listener in
    let l = c.loop-request in
    let new = c.play_line.new in
    let begun = L.begun (L.state c.args.listener.now) c.args.header c.args.player.now in
    let cut = Played-cut P.Steps P.total L.next L.show L.closing L.lead L.opening c.args.player.now begun (L.contents c.args.out.now) l.player new.player (L.state l.listener) (L.state new.listener) l.counted new.summary (L.contents l.out) (L.contents new.out) c.args.requests.now l.request-index l.line c.request-item.result
    c.loop-request-test.true l.invariant.line c.request-item.is l.invariant.played c.in-Err.ensures.stopped in
    rw c.stopped.ensures (stopped_in P.Steps P.total L.next L.show L.closing L.lead L.opening L.NeedsMemory begun c.args.player.now c.args.requests.now c.in-Err.stop (L.contents c.args.out.now) (L.contents new.out)
    (λ is. refused_at L.NeedsMemory c.args.requests.now l.request-index c.request-item.result c.request-item.result c.loop-request-test.true c.request-item.is (c.play_line.ensures.memory (c.in-Err.is ∙ ap Err is))) cut)

pub returns-in_err-end-clause-ends : goal.returns-in_err-end-clause-ends
returns-in_err-end-clause-ends g c =
    let P = g.P.Player in
    let L = g.L.Listener in
    let l = c.loop-request in
    let requests = c.args.requests.now in
    let begun = L.begun (L.state c.args.listener.now) c.args.header c.args.player.now in
    let p = err_from_is_err_and c.from_residual-in_err-end.result c.from_residual-in_err-end.ensures.1 in
    let whole : take l.request-index requests ≡ requests = take_all l.request-index requests (omega (arith, c.loop-request-test.false)) in
    let played = subst (λ (done : List Request). Played P.Steps P.total L.next L.show L.closing L.lead L.opening c.args.player.now begun (L.contents c.args.out.now) done l.player (L.state l.listener) l.counted (L.contents l.out)) whole l.invariant.played in
    rw (p.1, p.2) (ended_early P.Steps P.total L.next L.show L.closing L.lead L.opening c.args.player.now begun (L.contents c.args.out.now) l.player (L.state l.listener) l.counted c.total-summary.result (L.contents l.out) (L.contents c.end.new.out) requests played c.total-summary.ensures L.NeedsMemory c.in_err-end.ensures.shown c.in_err-end.ensures.cut)

pub returns-clause-ends : goal.returns-clause-ends
returns-clause-ends g c =
    let P = g.P.Player in
    let L = g.L.Listener in
    let l = c.loop-request in
    let requests = c.args.requests.now in
    let begun = L.begun (L.state c.args.listener.now) c.args.header c.args.player.now in
    let whole : take l.request-index requests ≡ requests = take_all l.request-index requests (omega (arith, c.loop-request-test.false)) in
    let played = subst (λ (done : List Request). Played P.Steps P.total L.next L.show L.closing L.lead L.opening c.args.player.now begun (L.contents c.args.out.now) done l.player (L.state l.listener) l.counted (L.contents l.out)) whole l.invariant.played in
    ended P.Steps P.total L.next L.show L.closing L.lead L.opening c.args.player.now begun (L.contents c.args.out.now) l.player (L.state l.listener) l.counted c.total-summary.result (L.contents l.out) (L.contents c.end.new.out) requests played c.total-summary.ensures L.NeedsMemory c.in_ok-end.ensures.shown

pub returns-clause-left : goal.returns-clause-left
returns-clause-left g c =
    let P = g.P.Player in
    let L = g.L.Listener in
    let l = c.loop-request in
    let requests = c.args.requests.now in
    let begun = L.begun (L.state c.args.listener.now) c.args.header c.args.player.now in
    let whole : take l.request-index requests ≡ requests = take_all l.request-index requests (omega (arith, c.loop-request-test.false)) in
    let played = subst (λ (done : List Request). Played P.Steps P.total L.next L.show L.closing L.lead L.opening c.args.player.now begun (L.contents c.args.out.now) done l.player (L.state l.listener) l.counted (L.contents l.out)) whole l.invariant.played in
    (played.seen, played.runs, played.left)

pub returns-in-Err-clause-counted : goal.returns-in-Err-clause-counted
returns-in-Err-clause-counted g c = grind (arith, c.play_line.ensures.counted, c.loop-request.invariant.counted)

pub returns-in_err-end-clause-counted : goal.returns-in_err-end-clause-counted
returns-in_err-end-clause-counted g c = grind (arith, c.end.ensures.counted, c.loop-request.invariant.counted)

pub returns-clause-counted : goal.returns-clause-counted
returns-clause-counted g c = grind (arith, c.end.ensures.counted, c.loop-request.invariant.counted)
