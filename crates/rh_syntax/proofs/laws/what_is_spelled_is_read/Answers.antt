use Rattle.rh_syntax.specs.lemmas.ReadIsSpelled.{trace_of-means}
use Rattle.rh_syntax.specs.lemmas.SpelledIsRead.{trace_of-spelling}
use Rattle.rh_syntax.proofs.laws.what_is_spelled_is_read.Goals as goal

pub returns-clause-spelled : goal.returns-clause-spelled
returns-clause-spelled c = trace_of-spelling

pub returns-clause-read : goal.returns-clause-read
returns-clause-read c = trace_of-means
