use Rattle.rh_heap_dump.proofs.HeapDump.{IsDumpable-heap}
use Rattle.rh_heap_dump.proofs.heap_dump.HeapGraphObjectGraph.limit.Goals as goal

pub returns-clause-dumpable : goal.returns-clause-dumpable
returns-clause-dumpable g c = IsDumpable-heap c.args.self.now.heap.now.mutators c.used.ensures.heap.mutators c.used.ensures.space
