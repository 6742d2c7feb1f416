use Rattle.rh_dump.proofs.texts.SpelledIsRead.{graph_within-dump_text, graph_within-IsTextOf}
use Rattle.rh_dump.proofs.texts.ReadIsSpelled.{graph_within-means, graph_within-one}
use Rattle.rh_dump.proofs.laws.what_is_spelled_is_read.Goals as goal

pub returns-clause-spelled : goal.returns-clause-spelled
returns-clause-spelled c = graph_within-dump_text 268435456

pub returns-clause-version_1 : goal.returns-clause-version_1
returns-clause-version_1 c = graph_within-one 268435456

pub returns-clause-read : goal.returns-clause-read
returns-clause-read c = λ text g. (graph_within-means 268435456 text g, graph_within-IsTextOf 268435456 text g)
