use Rattle.std.proofs.Common.{rules}
use Rattle.rh_cycle_events.proofs.heard.Heard.begins.Goals as goal

pub returns : goal.returns
returns c = search rules
