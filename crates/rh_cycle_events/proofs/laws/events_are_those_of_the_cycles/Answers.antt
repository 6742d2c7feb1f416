use Rattle.rh_cycle_events.proofs.LinesRead.{cycles-events}
use Rattle.rh_cycle_events.proofs.PartsHeard.{events-append, heard-append}
use Rattle.rh_cycle_events.proofs.laws.events_are_those_of_the_cycles.Goals as goal

pub returns : goal.returns
returns c = record { cycles = cycles-events; parts = events-append; heard = heard-append }
