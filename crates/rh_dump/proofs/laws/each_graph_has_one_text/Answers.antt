use Rattle.rh_dump.proofs.described.DescribedHeaps.{texts-exact, read-exact, described-exact, described-back}
use Rattle.rh_dump.proofs.laws.each_graph_has_one_text.Goals as goal

pub returns-clause-texts : goal.returns-clause-texts
returns-clause-texts c = texts-exact

pub returns-clause-read : goal.returns-clause-read
returns-clause-read c = read-exact

pub returns-clause-graphs : goal.returns-clause-graphs
returns-clause-graphs c = described-exact

pub returns-clause-back : goal.returns-clause-back
returns-clause-back c = described-back
