use Rattle.rh_syntax.specs.lemmas.ReadIsSpelled.{IsScript-made}
use Rattle.rh_syntax.proofs.trace.trace_in.Goals as goal

pub invariant_of-result : goal.invariant_of-result
invariant_of-result g c =
    let raw = c.first_line-ended.result in
    IsScript-made c.args.bytes.now raw.2.now (record { bytes = raw.0.now; ended = raw.1 }) c.in_ok-header.header c.in_ok-requests.requests.items c.first_line-ended.ensures.lines c.in_ok-header.ensures c.in_ok-requests.ensures.requests
