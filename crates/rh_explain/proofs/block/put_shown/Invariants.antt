use Rattle.std.proofs.Common.{◌≡◌, ◌++◌, take}
use Rattle.rh_explain.specs.Block.{shown}
use Rattle.rh_explain.proofs.block.put_shown.Given as goal

abbrev pub invariant-loop-byte : goal.invariant-loop-byte
invariant-loop-byte l = l.text ≡ l.fn.text ++ shown (take l.byte-index l.bytes)
