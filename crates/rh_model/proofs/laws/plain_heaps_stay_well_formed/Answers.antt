use Rattle.rh_model.proofs.StaysWellFormed.{IsWellFormedPlain-IsPlain, IsWellFormedPlain-empty, IsWellFormedPlain-step}
use Rattle.rh_model.proofs.laws.plain_heaps_stay_well_formed.Goals as goal

pub returns-clause-empty : goal.returns-clause-empty
returns-clause-empty c = IsWellFormedPlain-empty

pub returns-clause-program : goal.returns-clause-program
returns-clause-program c = IsWellFormedPlain-IsPlain

pub returns-clause-step : goal.returns-clause-step
returns-clause-step c = IsWellFormedPlain-step
