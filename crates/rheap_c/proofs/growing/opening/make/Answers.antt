use Rattle.rheap_c.proofs.Growths.{made-none}
use Rattle.rheap_c.proofs.growing.opening.make.Goals as goal

pub returns-in-Err-clause-fault : goal.returns-in-Err-clause-fault
returns-in-Err-clause-fault c = made-none c.args.growth c.of.result c.of.ensures.fault c.in-Err.why c.in-Err.is
