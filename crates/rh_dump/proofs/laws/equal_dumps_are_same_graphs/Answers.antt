use Rattle.rh_dump.proofs.graphs.SameNumbers.{dump_below-exact}
use Rattle.rh_dump.proofs.laws.equal_dumps_are_same_graphs.Goals as goal

pub returns : goal.returns
returns c = dump_below-exact
