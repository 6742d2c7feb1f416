use Rattle.std.proofs.Common.{refl}
use Rattle.rh_replay.proofs.FirstCalls.{count_of-own, count_of-other}
use Rattle.rh_replay.proofs.laws.each_call_is_counted_for_its_owner.Goals as goal

pub returns-clause-none : goal.returns-clause-none
returns-clause-none c = λ owner. refl

pub returns-clause-own : goal.returns-clause-own
returns-clause-own c = count_of-own

pub returns-clause-other : goal.returns-clause-other
returns-clause-other c = count_of-other
