use Rattle.std.proofs.Common.{arith}
use Rattle.rh_cycles.specs.Cycles.{new_reader}
use Rattle.rh_cycles.proofs.Begins.{in-order}
use Rattle.rh_cycles.proofs.laws.a_cycle_begins_before_it_ends.Goals as goal

pub returns : goal.returns
returns c = λ stat line readings rise. in-order line readings line (new_reader stat) (omega arith) rise tt
