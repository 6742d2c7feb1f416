use Rattle.rh_shared.proofs.OneReason.{reason-none, reason-once}
use Rattle.rh_shared.proofs.call_laws.one_reason_at_most_keeps_a_heap_open.Goals as goal

pub returns-clause-one : goal.returns-clause-one
returns-clause-one c = reason-once

pub returns-clause-none : goal.returns-clause-none
returns-clause-none c = reason-none
