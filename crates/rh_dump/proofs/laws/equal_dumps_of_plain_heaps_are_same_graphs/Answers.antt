use Rattle.std.proofs.Common.{length}
use Rattle.rh_model.specs.Plain as plain
use Rattle.rh_dump.proofs.graphs.PlainDump.{reaches-plain}
use Rattle.rh_dump.proofs.graphs.SameNumbers.{dump_below-exact}
use Rattle.rh_dump.proofs.laws.equal_dumps_of_plain_heaps_are_same_graphs.Goals as goal

pub returns : goal.returns
returns c p q first second =
    dump_below-exact (plain.graph_of p) (plain.graph_of q) (length p.objects) (length q.objects) (reaches-plain p first) (reaches-plain q second)
