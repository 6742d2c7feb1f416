use Rattle.rh_dump.proofs.graphs.PlainDump.{reaches-plain, IsDumpable-plain}
use Rattle.rh_dump.proofs.laws.plain_heaps_can_be_dumped.Goals as goal

pub returns-clause-reaches : goal.returns-clause-reaches
returns-clause-reaches c = reaches-plain

pub returns-clause-dumpable : goal.returns-clause-dumpable
returns-clause-dumpable c = IsDumpable-plain
