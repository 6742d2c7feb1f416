use Rattle.rh_model.specs.PlainValue.{value_of_plain}
use Rattle.rh_dump.proofs.graphs.PlainDump.{IsBelow-read_root}
use Rattle.rh_dump.proofs.plain_dump.PlainObjectGraph.held.Goals as goal

pub value_of-requires : goal.value_of-requires
value_of-requires g c = IsBelow-read_root c.args.self.now c.objects.ensures.plain c.requires c.args.id (value_of_plain c.in-Some.value) c.in-Some.ensures
