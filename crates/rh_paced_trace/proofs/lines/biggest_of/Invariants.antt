use Rattle.std.proofs.Common.{◌≡◌, ◌≤◌, drop, max}
use Rattle.rh_paced_trace.specs.Lines.{biggest_of, commands_in}
use Rattle.rh_paced_trace.proofs.lines.biggest_of.Given as goal

abbrev pub invariant-loop-request : goal.invariant-loop-request
invariant-loop-request l = record {
  rest : max l.biggest (biggest_of (commands_in (drop l.request-index l.requests))) ≡ biggest_of (commands_in l.requests);
  least : 2 ≤ l.biggest;
}
