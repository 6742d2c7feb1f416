-- The dump of a heap.
use Rattle.rh_space.specs.Space.{used_words}
use Rattle.rh_core.specs.Mutator.{graph_of}
use Rattle.rh_core.specs.Heap.{HeapState}
use Rattle.rh_dump.specs.Dump.{GraphState}
use Rattle.rh_dump.specs.Numbering.{dump_below}

-- the dump of a heap: its addresses are below the words that objects use
abbrev pub dump_of : HeapState → GraphState
dump_of h = dump_below (used_words h.mutators.space.objects) (graph_of h.mutators)
