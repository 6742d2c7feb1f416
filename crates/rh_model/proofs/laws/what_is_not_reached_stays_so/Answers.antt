use Rattle.rh_model.proofs.StaysUnreached.{reaches-step}
use Rattle.rh_model.proofs.laws.what_is_not_reached_stays_so.Goals as goal

pub returns-clause-object : goal.returns-clause-object
returns-clause-object c = λ p formed owner command. (reaches-step p formed owner command).objects

pub returns-clause-unreached : goal.returns-clause-unreached
returns-clause-unreached c = λ p formed owner command name object unreached reached. unreached ((reaches-step p formed owner command).reached name object reached)
