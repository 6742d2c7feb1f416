use Rattle.std.proofs.Common.{◌≡◌, Result, Err, IfErr, OnErr, ap, sym, subst, ◌∙◌}
use Rattle.rh_trace.specs.declared.summary.Summary.{Summary}
use Rattle.rh_shell.specs.declared.fault.ShellFault.{ShellFault}
use Rattle.rh_shell.specs.declared.fault.ShellFault.TheVariants as faults
use Rattle.rh_shell.specs.OutputLog.{IsSpent}
use Rattle.rh_shell.proofs.Taken.{ends_empty, ends_open, ends_stopped, read_not, stop_no_read, stop_write, write_stop}
use Rattle.rh_shell.proofs.Logged.{spent_then}
use Rattle.rh_shell.proofs.shell.end_session.Goals as goal

pub returns-then-is_empty-clause-ends : goal.returns-then-is_empty-clause-ends
returns-then-is_empty-clause-ends g c = λ typed before h.
    let known = g.W.Write.contents in
    ends_empty typed before c.args.line.now c.args.session.now c.finish.result (known c.args.writer.now) (known c.finish.new.writer) h (sym c.is_empty.ensures ∙ c.if-is_empty.true) c.finish.ensures.sum c.finish.ensures.only c.finish.ensures.written

pub returns-in-Ok-clause-ends : goal.returns-in-Ok-clause-ends
returns-in-Ok-clause-ends g c = λ typed before h.
    let known = g.W.Write.contents in
    ends_open typed before c.args.line.now c.args.session.now c.take_line.new.session tt c.finish-in-Ok.result (known c.args.writer.now) (known c.take_line.new.writer) (known c.finish-in-Ok.new.writer) h (sym c.is_empty.ensures ∙ c.if-is_empty.false) c.in-Ok.ensures.told c.finish-in-Ok.ensures.sum c.finish-in-Ok.ensures.only c.finish-in-Ok.ensures.written

pub returns-in-Err-clause-ends : goal.returns-in-Err-clause-ends
returns-in-Err-clause-ends g c = λ typed before h.
    let known = g.W.Write.contents in
    ends_stopped typed before c.args.line.now c.args.session.now c.take_line.new.session c.in-Err.stop c.fault_of.result (known c.args.writer.now) (known c.take_line.new.writer) c.fault_of.ensures h (sym c.is_empty.ensures ∙ c.if-is_empty.false) c.in-Err.ensures.told

pub returns-then-is_empty-clause-no_read : goal.returns-then-is_empty-clause-no_read
returns-then-is_empty-clause-no_read g c = λ e. read_not (subst (λ (r : Result Summary ShellFault). IfErr r (λ fault. fault ≡ faults.Write)) e c.finish.ensures.only)

pub returns-then-is_empty-clause-failed : goal.returns-then-is_empty-clause-failed
returns-then-is_empty-clause-failed g c = λ e. subst (λ (r : Result Summary ShellFault). OnErr r (IsSpent c.finish.new.log)) e c.finish.ensures.failed

pub returns-in-Ok-clause-no_read : goal.returns-in-Ok-clause-no_read
returns-in-Ok-clause-no_read g c = λ e. read_not (subst (λ (r : Result Summary ShellFault). IfErr r (λ fault. fault ≡ faults.Write)) e c.finish-in-Ok.ensures.only)

pub returns-in-Ok-clause-failed : goal.returns-in-Ok-clause-failed
returns-in-Ok-clause-failed g c = λ e. subst (λ (r : Result Summary ShellFault). OnErr r (IsSpent c.finish-in-Ok.new.log)) e c.finish-in-Ok.ensures.failed

pub returns-in-Err-clause-no_read : goal.returns-in-Err-clause-no_read
returns-in-Err-clause-no_read g c = λ e. stop_no_read c.in-Err.stop c.fault_of.result c.fault_of.ensures e

pub returns-in-Err-clause-failed : goal.returns-in-Err-clause-failed
returns-in-Err-clause-failed g c = λ e. c.in-Err.ensures.failed (ap Err (stop_write c.in-Err.stop c.fault_of.result c.fault_of.ensures e))

pub returns-in-Ok-clause-spent : goal.returns-in-Ok-clause-spent
returns-in-Ok-clause-spent g c = λ e. spent_then c.args.log.now c.take_line.new.log c.finish-in-Ok.new.log c.in-Ok.ensures.made (c.finish-in-Ok.ensures.spent e)

pub returns-in-Err-clause-none_failed : goal.returns-in-Err-clause-none_failed
returns-in-Err-clause-none_failed g c = λ other. c.in-Err.ensures.none_failed (λ e. other (write_stop c.in-Err.stop c.fault_of.result c.fault_of.ensures e))

pub returns-in-Err-clause-none_unflushed : goal.returns-in-Err-clause-none_unflushed
returns-in-Err-clause-none_unflushed g c = λ other. c.in-Err.ensures.none_unflushed (λ e. other (write_stop c.in-Err.stop c.fault_of.result c.fault_of.ensures e))

pub returns-in-Err-clause-spent : goal.returns-in-Err-clause-spent
returns-in-Err-clause-spent g c = λ e. c.in-Err.ensures.spent (ap Err (stop_write c.in-Err.stop c.fault_of.result c.fault_of.ensures e))
