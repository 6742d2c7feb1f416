use Rattle.std.proofs.Common.{rules}
use Rattle.rh_trace_views.proofs.cycle_reading.CycleReaderCycleReadingEngine.read.Goals as goal

pub returns-clause-state : goal.returns-clause-state
returns-clause-state g c = search rules

pub returns-clause-told : goal.returns-clause-told
returns-clause-told g c = search rules
