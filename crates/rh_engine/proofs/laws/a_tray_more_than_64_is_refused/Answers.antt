use Rattle.rh_engine.proofs.TrayLimit.{deal-too_many, join-too_many, length-trays_with}
use Rattle.rh_engine.proofs.laws.a_tray_more_than_64_is_refused.Goals as goal

pub returns-clause-deal : goal.returns-clause-deal
returns-clause-deal c = deal-too_many

pub returns-clause-join : goal.returns-clause-join
returns-clause-join c = join-too_many

pub returns-clause-counted : goal.returns-clause-counted
returns-clause-counted c = length-trays_with
