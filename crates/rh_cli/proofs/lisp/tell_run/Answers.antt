use Rattle.std.proofs.Common.{Ok, Err, sym, ◌∙◌}
use Rattle.rh_cli.proofs.LispStatuses.{lisp_fault_is_not_0, lisp_late}
use Rattle.rh_cli.proofs.lisp.tell_run.Goals as goal

pub returns-in-Ok-clause-status : goal.returns-in-Ok-clause-status
returns-in-Ok-clause-status g c = rw c.in-Ok.is c.tell_end.ensures.status

pub returns-in-Ok-clause-late : goal.returns-in-Ok-clause-late
returns-in-Ok-clause-late g c = lisp_late (Ok c.in-Ok.ran.ended.outcome) c.tell_end.result c.tell_end.ensures.status

pub returns-in-Err-clause-status : goal.returns-in-Err-clause-status
returns-in-Err-clause-status g c = rw c.in-Err.is c.tell_fault.ensures

pub returns-in-Err-clause-quiet : goal.returns-in-Err-clause-quiet
returns-in-Err-clause-quiet g c = λ is. absurd (lisp_fault_is_not_0 c.in-Err.fault (sym is ∙ c.tell_fault.ensures))

pub returns-in-Err-clause-late : goal.returns-in-Err-clause-late
returns-in-Err-clause-late g c = lisp_late (Err c.in-Err.fault) c.tell_fault.result c.tell_fault.ensures
