use Rattle.rh_dump.proofs.described.DescribedHeaps.{IsGraph-exact, IsPlain-plain_heap_of, plain_dump_of-plain_heap_of, text_of_described}
use Rattle.rh_dump.proofs.laws.graphs_are_the_dumps_of_plain_heaps.Goals as goal

pub returns-clause-exact : goal.returns-clause-exact
returns-clause-exact c = IsGraph-exact

pub returns-clause-described : goal.returns-clause-described
returns-clause-described c g is = (IsPlain-plain_heap_of g is, plain_dump_of-plain_heap_of g is)

pub returns-clause-texts : goal.returns-clause-texts
returns-clause-texts c = text_of_described
