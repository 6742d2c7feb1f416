use Rattle.rheap_c.proofs.growing.collecting.incremented.Goals as goal

pub returns : goal.returns
returns c = let said = c.increment.ensures in (
  said.state.0,
  record { state = said.state.1; stands = said.stands; in_time = said.in_time },
)
