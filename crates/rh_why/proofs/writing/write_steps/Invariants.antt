use Rattle.std.proofs.Common.{◌≡◌, false, drop}
use Rattle.rh_text.specs.lemmas.Appends.{Sent}
use Rattle.rh_why.proofs.Texts.{steps_text}
use Rattle.rh_why.proofs.writing.write_steps.Given as goal

abbrev pub invariant-loop-step : goal.invariant-loop-step
invariant-loop-step g l = record {
  sent : Sent (g.W.Write.contents l.fn.writer) (g.W.Write.contents l.writer) (steps_text l.steps) (steps_text (drop l.step-index l.steps));
  none_failed : l.writes.failed ≡ false;
}
