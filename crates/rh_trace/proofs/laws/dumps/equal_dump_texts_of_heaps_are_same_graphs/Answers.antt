use Rattle.std.proofs.Common.{length}
use Rattle.rh_space.specs.Space.{used_words}
use Rattle.rh_model.specs.Plain as plain
use Rattle.rh_core.specs.Mutator.{graph_of}
use Rattle.rh_heap_dump.proofs.HeapDump.{IsDumpable-heap}
use Rattle.rh_trace.proofs.laws.dumps.equal_dump_texts_of_heaps_are_same_graphs.Goals as goal

pub returns-clause-heaps : goal.returns-clause-heaps
returns-clause-heaps c h k first second these those =
    c.equal_dump_texts_are_same_graphs.ensures.graphs (graph_of h.mutators) (graph_of k.mutators) (used_words h.mutators.space.objects) (used_words k.mutators.space.objects) (IsDumpable-heap h.mutators first.mutators these) (IsDumpable-heap k.mutators second.mutators those)

pub returns-clause-both : goal.returns-clause-both
returns-clause-both c p h first few second space =
    c.equal_dump_texts_are_same_graphs.ensures.graphs (plain.graph_of p) (graph_of h.mutators) (length p.objects) (used_words h.mutators.space.objects) (c.plain_heaps_can_be_dumped.ensures.dumpable p first few) (IsDumpable-heap h.mutators second.mutators space)
