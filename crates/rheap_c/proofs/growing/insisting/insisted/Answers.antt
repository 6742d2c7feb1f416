use Rattle.rheap_c.proofs.growing.insisting.insisted.Goals as goal

pub returns : goal.returns
returns c = let said = c.insist.ensures in (
  said.state.0,
  record {
    state = said.state.1;
    answer = said.state.2;
    transparent = said.transparent;
    reached = said.reached;
    log = said.log;
    in_time = said.in_time;
  },
)
