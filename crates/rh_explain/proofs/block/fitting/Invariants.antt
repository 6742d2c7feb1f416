use Rattle.std.proofs.Common.{◌≡◌, ◌*◌, ◌≤◌, length, take}
use Rattle.rh_explain.specs.Block.{shown}
use Rattle.rh_explain.proofs.block.fitting.Given as goal

abbrev pub invariant-loop-i : goal.invariant-loop-i
invariant-loop-i l = record {
  shown : l.columns ≡ length (shown (take l.i l.bytes));
  fits : l.columns ≤ 74;
  many : l.columns ≤ 4 * l.i;
}
