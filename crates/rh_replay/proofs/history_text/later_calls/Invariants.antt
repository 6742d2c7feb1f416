use Rattle.std.proofs.Common.{◌≡◌, ◌≤◌, length}
use Rattle.rh_text.specs.RawLine.{lines_of}
use Rattle.rh_replay.specs.Reading.{calls_from}
use Rattle.rh_replay.proofs.CallsInTurn.{after_prefix}
use Rattle.rh_replay.proofs.history_text.later_calls.Given as goal

abbrev pub invariant-loop-rest : goal.invariant-loop-rest
invariant-loop-rest g l = record {
  read : after_prefix l.calls.items (calls_from l.number (lines_of l.rest)) ≡ calls_from 2 (lines_of l.bytes);
  few : l.number ≤ 1048577;
}

abbrev pub decreases-loop-rest : goal.decreases-loop-rest
decreases-loop-rest g l = length l.rest
