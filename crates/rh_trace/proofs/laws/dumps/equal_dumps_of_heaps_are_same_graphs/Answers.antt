use Rattle.std.proofs.Common.{length}
use Rattle.rh_space.specs.Space.{used_words}
use Rattle.rh_model.specs.Plain as plain
use Rattle.rh_core.specs.Mutator.{graph_of}
use Rattle.rh_heap_dump.proofs.HeapDump.{reaches-heap}
use Rattle.rh_trace.proofs.laws.dumps.equal_dumps_of_heaps_are_same_graphs.Goals as goal

pub returns-clause-heaps : goal.returns-clause-heaps
returns-clause-heaps c h k first second =
    c.equal_dumps_are_same_graphs.ensures (graph_of h.mutators) (graph_of k.mutators) (used_words h.mutators.space.objects) (used_words k.mutators.space.objects) (reaches-heap h.mutators first.mutators) (reaches-heap k.mutators second.mutators)

pub returns-clause-both : goal.returns-clause-both
returns-clause-both c p h first second =
    c.equal_dumps_are_same_graphs.ensures (plain.graph_of p) (graph_of h.mutators) (length p.objects) (used_words h.mutators.space.objects) (c.plain_heaps_can_be_dumped.ensures.reaches p first) (reaches-heap h.mutators second.mutators)
