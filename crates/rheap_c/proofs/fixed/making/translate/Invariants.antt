use Rattle.std.proofs.Common.{◌≡◌, true, length, take}
use Rattle.rheap_c.specs.Making.{have_kinds, operands_of}
use Rattle.rheap_c.proofs.fixed.making.translate.Given as goal

-- the values so far are of kinds that there are, and the operands are what they mean
abbrev pub invariant-loop-at : goal.invariant-loop-at
invariant-loop-at l = record {
  kinds : have_kinds (take l.at l.values) ≡ true;
  meant : take l.at l.operands ≡ operands_of (take l.at l.values);
  size : length l.operands ≡ length l.fn.operands;
}
