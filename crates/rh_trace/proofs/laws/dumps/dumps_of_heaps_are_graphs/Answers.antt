use Rattle.rh_space.specs.Space.{used_words}
use Rattle.rh_core.specs.Mutator.{graph_of}
use Rattle.rh_heap_dump.proofs.HeapDump.{IsDumpable-heap}
use Rattle.rh_trace.proofs.laws.dumps.dumps_of_heaps_are_graphs.Goals as goal

pub returns : goal.returns
returns c h kept space =
    c.dumps_are_graphs.ensures.graphs (graph_of h.mutators) (used_words h.mutators.space.objects) (IsDumpable-heap h.mutators kept.mutators space)
