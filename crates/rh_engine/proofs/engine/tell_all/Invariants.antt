use Rattle.std.proofs.Common.{◌+◌, ◌≤◌, length}
use Rattle.std.specs.Prelude.{vec_len}
use Rattle.std.specs.Vec.{vec_capacity}
use Rattle.rh_engine.proofs.TellAll.{ToldSoFar}
use Rattle.rh_engine.proofs.engine.tell_all.Given as goal

abbrev pub invariant-loop-ticket : goal.invariant-loop-ticket
invariant-loop-ticket g l = record {
  so_far : ToldSoFar l.fn.heap l.heap l.told.items;
  room : vec_len l.told + length l.heap.watches.gone ≤ vec_capacity l.told;
}

abbrev pub decreases-loop-ticket : goal.decreases-loop-ticket
decreases-loop-ticket g l = length l.heap.watches.gone
