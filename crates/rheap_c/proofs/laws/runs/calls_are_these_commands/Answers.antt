use Rattle.std.proofs.Common.{refl}
use Rattle.rheap_c.proofs.Runs.{row_of-only}
use Rattle.rheap_c.proofs.laws.runs.calls_are_these_commands.Goals as goal

pub returns : goal.returns
returns c = record {
  does = λ owner command dst src a b field. (refl, refl, refl, refl);
  asks = λ owner src root field. (refl, refl, refl, refl);
  only_does = λ owner command dst src a b field. (refl, refl, refl, refl);
  only_asks = λ owner src root field. (refl, refl, refl, refl);
  neither = (refl, refl, refl, refl, refl, refl);
  neither_in_a_row = λ owner object from numbers. (refl, refl, refl, refl, refl, refl);
  neither_of_a_text = λ owner object from before. (refl, refl, refl);
  rows = λ owner object from numbers. (refl, refl, refl);
  only_rows = row_of-only;
}
