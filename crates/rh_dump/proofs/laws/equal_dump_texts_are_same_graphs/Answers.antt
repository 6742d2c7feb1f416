use Rattle.std.proofs.Common.{length}
use Rattle.rh_model.specs.Plain as plain
use Rattle.rh_dump.proofs.graphs.PlainDump.{IsDumpable-plain}
use Rattle.rh_dump.proofs.graphs.DumpedGraphs.{dump_text-exact}
use Rattle.rh_dump.proofs.laws.equal_dump_texts_are_same_graphs.Goals as goal

pub returns-clause-graphs : goal.returns-clause-graphs
returns-clause-graphs c = dump_text-exact

pub returns-clause-plain_heaps : goal.returns-clause-plain_heaps
returns-clause-plain_heaps c p q first second few no_more =
    dump_text-exact (plain.graph_of p) (plain.graph_of q) (length p.objects) (length q.objects) (IsDumpable-plain p first few) (IsDumpable-plain q second no_more)
