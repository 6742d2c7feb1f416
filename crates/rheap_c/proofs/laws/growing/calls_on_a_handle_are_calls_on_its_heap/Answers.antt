use Rattle.rheap_c.proofs.GrownRuns.{on_fixed, on_growing, on_one}
use Rattle.rheap_c.proofs.laws.growing.calls_on_a_handle_are_calls_on_its_heap.Goals as goal

pub returns : goal.returns
returns c = record { fixed = on_fixed; growing = on_growing; one = on_one }
