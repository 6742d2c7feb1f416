use Rattle.std.proofs.Common.{rules, arith}
use Rattle.std.proofs.lemmas.Grind.{common_steps}
use Rattle.rh_text.specs.Parts.{is_formed}
use Rattle.rh_text.proofs.parts.is_formed.Goals as goal

pub loop-byte-preserved : goal.loop-byte-preserved
unfolding is_formed
loop-byte-preserved c = first_of (search rules, grind (arith, common_steps))
