use Rattle.rheap_c.proofs.fixed.insisting.insisted.Goals as goal

pub returns : goal.returns
returns c = let said = c.insist.ensures in record {
  state = said.state;
  answer = said.answer;
  transparent = said.transparent;
  words = said.words;
  reached = said.reached;
  log = said.log;
}
