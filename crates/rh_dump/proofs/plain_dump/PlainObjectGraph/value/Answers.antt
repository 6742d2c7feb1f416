use Rattle.rh_model.specs.PlainValue.{value_of_plain}
use Rattle.rh_dump.proofs.graphs.PlainDump.{IsBelow-read_field}
use Rattle.rh_dump.proofs.plain_dump.PlainObjectGraph.value.Goals as goal

pub value_of-requires : goal.value_of-requires
value_of-requires g c = IsBelow-read_field c.args.self.now c.objects.ensures.plain c.requires.small c.args.name c.args.field (value_of_plain c.in-Some.value) c.in-Some.ensures
