use Rattle.std.proofs.Common.{◌≡◌, ◌++◌, ◌∷◌, [], Ok, Some, length, sym, ap, ◌∙◌, arith}
use Rattle.std.proofs.lemmas.Result.{err_from_is_err_and}
use Rattle.std.proofs.lemmas.Bool.{eqb-true}
use Rattle.std.proofs.lemmas.List.{nil_from_length}
use Rattle.rh_text.specs.RawLine.{lines_of}
use Rattle.rh_replay.specs.Reading.{calls_from}
use Rattle.rh_replay.proofs.CallsInTurn.{goes_on, stops, ends, trails, lacks_end}
use Rattle.rh_replay.proofs.ReadIsSpelled.{line_or_fault-means}
use Rattle.rh_replay.proofs.history_text.later_calls.Goals as goal

pub returns-in_err-call : goal.returns-in_err-call
returns-in_err-call g c =
    let p = err_from_is_err_and c.from_residual.result c.from_residual.ensures.1 in
    let raw = c.first_line-ended.result in
    rw (p.1, p.2) (stops c.loop-rest.calls.items c.loop-rest.number c.loop-rest.rest.now raw.2.now (record { bytes = raw.0.now; ended = raw.1 }) (calls_from 2 (lines_of c.args.bytes.now)) c.first_line-ended.ensures.lines c.loop-rest.invariant.read c.in_err-call.field-0.0 c.in_err-call.ensures)

pub returns-in_err-end_of_text-in-None : goal.returns-in_err-end_of_text-in-None
returns-in_err-end_of_text-in-None g c =
    let p = err_from_is_err_and c.from_residual-in_err-end_of_text-in-None.result c.from_residual-in_err-end_of_text-in-None.ensures.1 in
    let raw = c.first_line-ended.result in
    rw (p.1, p.2) (trails c.loop-rest.calls.items c.loop-rest.number c.loop-rest.rest.now raw.2.now (record { bytes = raw.0.now; ended = raw.1 }) (calls_from 2 (lines_of c.args.bytes.now)) c.first_line-ended.ensures.lines c.loop-rest.invariant.read c.in_err-end_of_text-in-None.field-0.0 (ap (λ r. Ok r) (sym c.in-None.is) ∙ c.in_ok-call.ensures) c.in_err-end_of_text-in-None.ensures.fault)

pub returns-in-None : goal.returns-in-None
returns-in-None g c =
    let raw = c.first_line-ended.result in
    ends c.loop-rest.calls.items c.loop-rest.number c.loop-rest.rest.now raw.2.now (record { bytes = raw.0.now; ended = raw.1 }) (calls_from 2 (lines_of c.args.bytes.now)) c.first_line-ended.ensures.lines c.loop-rest.invariant.read (ap (λ r. Ok r) (sym c.in-None.is) ∙ c.in_ok-call.ensures) c.in_ok-end_of_text-in-None.ensures.end

pub loop-rest-preserved : goal.loop-rest-preserved
loop-rest-preserved g c =
    let raw = c.first_line-ended.result in
    let call = c.in-Some.call in
    let read = ap (λ r. Ok r) (sym c.in-Some.is) ∙ c.in_ok-call.ensures in
    let pushed : c.push.new.self.items ≡ c.loop-rest.calls.items ++ call ∷ [] = c.in_ok-push-in-Some.ensures.items in
    let within = line_or_fault-means c.loop-rest.number (record { bytes = raw.0.now; ended = raw.1 }) (Some call) (sym read) in
    record {
      read = rw pushed (goes_on c.loop-rest.calls.items c.loop-rest.number c.loop-rest.rest.now raw.2.now (record { bytes = raw.0.now; ended = raw.1 }) (calls_from 2 (lines_of c.args.bytes.now)) c.first_line-ended.ensures.lines c.loop-rest.invariant.read call read);
      few = omega (arith, within.1);
    }

pub returns : goal.returns
returns g c =
    let empty : length c.loop-rest.rest.now ≡ 0 = eqb-true (length c.loop-rest.rest.now) 0 (sym c.is_empty.ensures ∙ c.loop-rest-test.false) in
    lacks_end c.loop-rest.calls.items c.loop-rest.number c.loop-rest.rest.now (calls_from 2 (lines_of c.args.bytes.now)) (nil_from_length c.loop-rest.rest.now empty) c.loop-rest.invariant.read
