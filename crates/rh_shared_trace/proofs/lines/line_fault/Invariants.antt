use Rattle.std.proofs.Common.{◌≡◌, ◌+◌, drop}
use Rattle.rh_shared_trace.specs.Lines.{line_fault}
use Rattle.rh_shared_trace.proofs.lines.line_fault.Given as goal

abbrev pub invariant-loop-request : goal.invariant-loop-request
invariant-loop-request l = record {
  rest : line_fault l.owners 2 l.requests ≡ line_fault l.owners l.line (drop l.request-index l.requests);
  line : l.line ≡ 2 + l.request-index;
}
