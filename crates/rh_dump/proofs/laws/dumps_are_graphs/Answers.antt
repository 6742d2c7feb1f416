use Rattle.std.proofs.Common.{length}
use Rattle.rh_model.specs.Plain as plain
use Rattle.rh_dump.proofs.graphs.PlainDump.{IsDumpable-plain}
use Rattle.rh_dump.proofs.graphs.DumpedGraphs.{IsGraph-dump_below}
use Rattle.rh_dump.proofs.laws.dumps_are_graphs.Goals as goal

pub returns-clause-graphs : goal.returns-clause-graphs
returns-clause-graphs c = IsGraph-dump_below

pub returns-clause-plain_heaps : goal.returns-clause-plain_heaps
returns-clause-plain_heaps c p kept few =
    IsGraph-dump_below (plain.graph_of p) (length p.objects) (IsDumpable-plain p kept few)
