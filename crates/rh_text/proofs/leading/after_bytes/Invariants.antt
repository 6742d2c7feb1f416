use Rattle.std.proofs.Common.{◌≡◌, ◌++◌, take}
use Rattle.rh_text.proofs.leading.after_bytes.Given as goal

abbrev pub invariant-loop-byte : goal.invariant-loop-byte
invariant-loop-byte l = l.text ≡ take l.byte-index l.prefix ++ l.rest
