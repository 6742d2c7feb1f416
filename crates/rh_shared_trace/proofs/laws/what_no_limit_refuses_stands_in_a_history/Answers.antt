use Rattle.rh_shared_trace.proofs.WhatStands.{allocations-stand, reads-stand, stores-stand}
use Rattle.rh_shared_trace.proofs.laws.what_no_limit_refuses_stands_in_a_history.Goals as goal

pub returns-clause-each : goal.returns-clause-each
returns-clause-each c = reads-stand

pub returns-clause-allocations : goal.returns-clause-allocations
returns-clause-allocations c = allocations-stand

pub returns-clause-stores : goal.returns-clause-stores
returns-clause-stores c = stores-stand
