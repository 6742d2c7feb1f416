use Rattle.rheap_c.proofs.GrownRuns.{calls_seen}
use Rattle.rheap_c.proofs.laws.growing.no_program_in_c_sees_that_the_heap_grows.Goals as goal

pub returns : goal.returns
returns c = calls_seen
