use Rattle.rheap_c.proofs.GrownRuns.{AreGrownMade-none}
use Rattle.rheap_c.proofs.laws.growing.calls_on_no_heap_do_nothing.Goals as goal

pub returns : goal.returns
returns c = AreGrownMade-none
