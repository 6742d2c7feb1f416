use Rattle.std.proofs.Common.{◌≡◌, drop}
use Rattle.rh_text.specs.Parts.{is_formed}
use Rattle.rh_text.proofs.WellFormed.{formed_after}
use Rattle.rh_text.proofs.parts.is_formed.Given as goal

abbrev pub invariant-loop-byte : goal.invariant-loop-byte
invariant-loop-byte l = formed_after l.is_part_empty (drop l.byte-index l.line) ≡ is_formed l.line
