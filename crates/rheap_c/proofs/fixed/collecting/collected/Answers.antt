use Rattle.rheap_c.proofs.fixed.collecting.collected.Goals as goal

pub returns : goal.returns
returns c = let said = c.collect.ensures in record {
  state = said.state;
  answer = said.answer;
  flips = said.flips;
  outside = said.outside;
  reached = said.reached;
  collected = said.collected;
  stands = said.stands;
}
