use Rattle.std.proofs.Common.{◌≡◌, ◌+◌, drop}
use Rattle.rh_paced_trace.specs.Lines.{other_fault}
use Rattle.rh_paced_trace.proofs.lines.other_fault.Given as goal

abbrev pub invariant-loop-request : goal.invariant-loop-request
invariant-loop-request l = record {
  rest : other_fault 2 l.requests ≡ other_fault l.line (drop l.request-index l.requests);
  line : l.line ≡ 2 + l.request-index;
}
