use Rattle.rh_dump.proofs.numbers.Numbered.{Reached-exact, IsOnce-names_after}
use Rattle.rh_dump.proofs.laws.what_is_reached_is_numbered_once.Goals as goal

pub returns-clause-reached : goal.returns-clause-reached
returns-clause-reached c = Reached-exact

pub returns-clause-once : goal.returns-clause-once
returns-clause-once c = IsOnce-names_after
