use Rattle.std.proofs.Common.{◌≡◌, ◌+◌, ◌≤◌, length}
use Rattle.rh_text.specs.RawLine.{lines_of}
use Rattle.rh_syntax.specs.Reading.{requests_from}
use Rattle.rh_syntax.specs.lemmas.LinesInTurn.{after_prefix}
use Rattle.rh_syntax.proofs.trace.later_requests.Given as goal

abbrev pub invariant-loop-rest : goal.invariant-loop-rest
invariant-loop-rest g l = record {
  read : after_prefix l.requests.items (requests_from l.number (lines_of l.rest)) ≡ requests_from 2 (lines_of l.bytes);
  count : l.number ≡ length l.requests.items + 2;
  few : l.number ≤ 1048577;
}

abbrev pub decreases-loop-rest : goal.decreases-loop-rest
decreases-loop-rest g l = length l.rest
