use Rattle.rh_dump.proofs.graphs.PlainDump.{IsDumpable-plain}
use Rattle.rh_dump.proofs.plain_dump.PlainObjectGraph.limit.Goals as goal

pub returns-clause-dumpable : goal.returns-clause-dumpable
returns-clause-dumpable g c = IsDumpable-plain c.args.self.now c.objects.ensures.plain c.requires
