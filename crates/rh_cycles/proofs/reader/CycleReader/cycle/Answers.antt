use Rattle.std.proofs.Common.{rules}
use Rattle.rh_cycles.proofs.reader.CycleReader.cycle.Goals as goal

pub returns : goal.returns
returns c = search rules
