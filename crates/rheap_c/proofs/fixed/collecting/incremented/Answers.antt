use Rattle.std.proofs.Common.{ap, ◌∙◌}
use Rattle.rheap_c.proofs.fixed.collecting.incremented.Goals as goal

pub returns : goal.returns
returns c = let said = c.increment.ensures in record {
  state = said.state;
  bounded = said.bounded;
  begun = λ began. said.begun (ap (λ did. did.began) said.answer ∙ began);
  collected = said.collected;
  stands = said.stands;
}
