use Rattle.std.proofs.Common.{◌≡◌, ◌++◌, ◌∷◌, [], length, sym, ap, ◌∙◌, arith}
use Rattle.std.proofs.lemmas.Result.{err_from_is_err_and}
use Rattle.std.proofs.lemmas.Bool.{eqb-true}
use Rattle.std.proofs.lemmas.List.{length_push, nil_from_length}
use Rattle.rh_syntax.specs.Reading.{requests_from}
use Rattle.rh_text.specs.RawLine.{lines_of}
use Rattle.rh_syntax.specs.lemmas.LinesInTurn.{goes_on, stops, is_done, number_within}
use Rattle.rh_syntax.proofs.LeadingLines.{ReadsFirst, command_leads}
use Rattle.rh_syntax.proofs.trace.later_requests.Goals as goal
use Rattle.rh_syntax.proofs.trace.later_requests.Goals.{in-Some, in-None+in_ok-request_or_fault-in-None}

pub returns-in_err-request_or_fault-in-None-clause-requests : goal.returns-in_err-request_or_fault-in-None-clause-requests
returns-in_err-request_or_fault-in-None-clause-requests g c =
    let p = err_from_is_err_and c.from_residual.result c.from_residual.ensures.1 in
    let raw = c.first_line-ended.result in
    rw (p.1, p.2) (stops c.loop-rest.requests.items c.loop-rest.number c.loop-rest.rest.now raw.2.now (record { bytes = raw.0.now; ended = raw.1 }) c.in_err-request_or_fault-in-None.field-0.0 (requests_from 2 (lines_of c.args.bytes.now)) c.first_line-ended.ensures.lines c.in_err-request_or_fault-in-None.ensures c.loop-rest.invariant.read)

pub loop-rest-preserved : goal.loop-rest-preserved
loop-rest-preserved g c =
    let number = c.loop-rest.number in
    let rest = c.loop-rest.rest.now in
    let request = c.match-leading_command_line.request.0 in
    let after = c.match-leading_command_line.request.1.now in
    let found : ReadsFirst number rest request after = elim c.match-leading_command_line.branch [
      | in-Some w ↦ let is = w.in-Some.ensures in rw w.request-is (command_leads number w.in-Some.owner w.in-Some.command rest w.in-Some.after.now is.0 is.1 is.2)
      | in-None+in_ok-request_or_fault-in-None w ↦
          let raw = w.first_line-ended.result in
          rw w.request-is (record { raw = record { bytes = raw.0.now; ended = raw.1 }; first = w.first_line-ended.ensures.lines; read = w.in_ok-request_or_fault-in-None.ensures })
    ] in
    let pushed : c.push.new.self.items ≡ c.loop-rest.requests.items ++ request ∷ [] = c.in_ok-push.ensures.items in
    record {
      read = rw pushed (goes_on c.loop-rest.requests.items number rest after found.raw request (requests_from 2 (lines_of c.args.bytes.now)) found.first found.read c.loop-rest.invariant.read);
      count = omega (arith, ap length pushed, length_push c.loop-rest.requests.items request, c.loop-rest.invariant.count);
      few = omega (arith, number_within number found.raw request found.read);
    }

pub returns-clause-requests : goal.returns-clause-requests
returns-clause-requests g c =
    let empty : length c.loop-rest.rest.now ≡ 0 = eqb-true (length c.loop-rest.rest.now) 0 (sym c.is_empty.ensures ∙ c.loop-rest-test.false) in
    is_done c.loop-rest.requests.items c.loop-rest.number c.loop-rest.rest.now (requests_from 2 (lines_of c.args.bytes.now)) (nil_from_length c.loop-rest.rest.now empty) c.loop-rest.invariant.read
