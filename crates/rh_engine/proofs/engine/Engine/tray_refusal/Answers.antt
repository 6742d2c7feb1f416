use Rattle.std.proofs.Common.{rules}
use Rattle.rh_engine.proofs.engine.Engine.tray_refusal.Goals as goal

pub returns : goal.returns
returns c = search rules
