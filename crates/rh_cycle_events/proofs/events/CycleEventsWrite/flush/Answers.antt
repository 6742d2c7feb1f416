use Rattle.std.proofs.Common.{rules}
use Rattle.rh_cycle_events.proofs.events.CycleEventsWrite.flush.Goals as goal

pub returns-clause-events : goal.returns-clause-events
returns-clause-events g c = search rules

pub returns-clause-ended : goal.returns-clause-ended
returns-clause-ended g c = search rules
