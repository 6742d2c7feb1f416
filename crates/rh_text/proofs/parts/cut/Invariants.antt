use Rattle.std.proofs.Common.{◌≡◌, take, drop}
use Rattle.rh_text.specs.Parts.{cut_at}
use Rattle.rh_text.specs.lemmas.Cuts.{after_prefix}
use Rattle.rh_text.proofs.parts.cut.Given as goal

abbrev pub invariant-loop-i : goal.invariant-loop-i
invariant-loop-i l = after_prefix (take l.i l.bytes) (cut_at l.at (drop l.i l.bytes)) ≡ cut_at l.at l.bytes
