use Rattle.rh_engine.proofs.PutTrays.{tray_named-there, tray_named-other, keys_of-trays_with}
use Rattle.rh_engine.proofs.laws.a_tray_takes_its_name_alone.Goals as goal

pub returns-clause-there : goal.returns-clause-there
returns-clause-there c = λ trays name t. tray_named-there name t trays

pub returns-clause-others : goal.returns-clause-others
returns-clause-others c = λ trays name other t apart. tray_named-other name t trays other apart

pub returns-clause-order : goal.returns-clause-order
returns-clause-order c = λ trays name t. keys_of-trays_with name t trays
