use Rattle.rh_replay.proofs.ReadIsSpelled.{history_of-means}
use Rattle.rh_replay.proofs.SpelledIsRead.{history_of-spelling}
use Rattle.rh_replay.proofs.laws.what_is_spelled_is_read.Goals as goal

pub returns-clause-spelled : goal.returns-clause-spelled
returns-clause-spelled c = history_of-spelling

pub returns-clause-read : goal.returns-clause-read
returns-clause-read c = history_of-means
