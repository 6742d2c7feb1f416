use Rattle.rh_heap_dump.proofs.HeapDump.{dump_of-plain}
use Rattle.rh_trace.proofs.laws.dumps.a_heap_has_the_dump_of_its_plain_heap.Goals as goal

pub returns : goal.returns
returns c =
    dump_of-plain c.equal_dumps_are_same_graphs.ensures c.pairs_what_is_reached.ensures.there c.pairs_what_is_reached.ensures.back
