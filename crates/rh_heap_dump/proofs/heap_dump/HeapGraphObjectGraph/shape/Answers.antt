use Rattle.std.proofs.Common.{rules}
use Rattle.rh_heap_dump.proofs.heap_dump.HeapGraphObjectGraph.shape.Goals as goal

pub returns-in-Some-raw : goal.returns-in-Some-raw
returns-in-Some-raw g c = search rules

pub returns-in-None-raw : goal.returns-in-None-raw
returns-in-None-raw g c = search rules
