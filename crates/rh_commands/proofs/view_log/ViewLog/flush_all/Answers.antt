use Rattle.rh_commands.proofs.RunsFlushed.{each_kept}
use Rattle.rh_commands.proofs.view_log.ViewLog.flush_all.Goals as goal

pub returns-clause-kept : goal.returns-clause-kept
returns-clause-kept g c = each_kept _ _ _ _ _ _ c.flush.ensures.kept c.flush-2.ensures.kept c.flush-3.ensures.kept
