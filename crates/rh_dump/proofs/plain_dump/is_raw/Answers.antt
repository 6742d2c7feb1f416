use Rattle.rh_dump.proofs.graphs.PlainDump.{raw-none}
use Rattle.rh_dump.proofs.plain_dump.is_raw.Goals as goal

pub returns-in-None : goal.returns-in-None
returns-in-None g c = raw-none c.args.heap.now.objects c.args.position c.in-None.ensures
