use Rattle.rheap_c.proofs.growing.collecting.collected.Goals as goal

pub returns : goal.returns
returns c = let said = c.collect.ensures in (
  said.state.0,
  record {
    state = said.state.1;
    answer = said.answer;
    flips = said.flips;
    outside = said.outside;
    reached = said.reached;
    stands = said.stands;
    in_time = said.in_time;
  },
)
