use Rattle.std.proofs.Common.{ℕ, List, [], sym, subst}
use Rattle.rh_trace.proofs.WrittenInTurn.{ok_no_error}
use Rattle.rh_shell.specs.declared.fault.ShellFault.TheVariants as faults
use Rattle.rh_shell.specs.Session.{SessionState}
use Rattle.rh_shell.specs.Typing.{IsAfter}
use Rattle.rh_shell.proofs.Taken.{ends_early, ends_late, fault_moved}
use Rattle.rh_shell.proofs.Typed.{IsAfter-none}
use Rattle.rh_shell.proofs.Logged.{spent_then}
use Rattle.rh_shell.proofs.shell.run_shell.Goals as goal

pub read_lines-requires-clause-begun : goal.read_lines-requires-clause-begun
read_lines-requires-clause-begun g c = subst (λ (l : List ℕ). IsAfter [] l [] c.new-session.result) (sym c.new-line.ensures.items) (subst (λ (s : SessionState). IsAfter [] [] [] s) (sym c.new-session.ensures.value) IsAfter-none)

pub returns-in-Ok-clause-ends : goal.returns-in-Ok-clause-ends
returns-in-Ok-clause-ends g c =
    let known = g.W.Write.contents in
    let reads = g.R.Read.remaining in
    let s = c.read_lines.new.session in
    let q = c.in-Ok.ensures.read in
    let ended = c.end_session.ensures.ends q.0 q.2.0 (subst (λ (l : List ℕ). IsAfter q.0 l q.2.0 s) (sym c.deref.ensures.value) q.2.1) in
    ends_late (reads c.args.reader.now) (reads c.read_lines.new.reader) (known c.args.writer.now) q.0 c.read_lines.new.line.items s (known c.read_lines.new.writer) (known c.end_session.new.writer) q.1 c.in-Ok.ensures.ended q.2 c.end_session.result ended

pub returns-clause-ends : goal.returns-clause-ends
returns-clause-ends g c =
    let known = g.W.Write.contents in
    let reads = g.R.Read.remaining in
    let q = c.in-Err.ensures.read in
    ends_early (reads c.args.reader.now) (reads c.read_lines.new.reader) (known c.args.writer.now) c.in-Err.fault q.0 c.read_lines.new.line.items c.read_lines.new.session (known c.read_lines.new.writer) q.1 q.2

pub returns-in-Ok-clause-read_failed : goal.returns-in-Ok-clause-read_failed
returns-in-Ok-clause-read_failed g c = λ e. absurd (c.end_session.ensures.no_read e)

pub returns-in-Ok-clause-no_read_failed : goal.returns-in-Ok-clause-no_read_failed
returns-in-Ok-clause-no_read_failed g c = λ other. c.in-Ok.ensures.no_read_failed (λ e. ok_no_error _ _ e)

pub returns-in-Ok-clause-writes_spent : goal.returns-in-Ok-clause-writes_spent
returns-in-Ok-clause-writes_spent g c = λ e. spent_then c.args.log.now c.read_lines.new.log c.end_session.new.log c.in-Ok.ensures.made (c.end_session.ensures.spent e)

pub returns-clause-no_write_failed : goal.returns-clause-no_write_failed
returns-clause-no_write_failed g c = λ other. c.in-Err.ensures.none_failed (λ e. other (fault_moved c.in-Err.fault faults.Write e))

pub returns-clause-no_flush_failed : goal.returns-clause-no_flush_failed
returns-clause-no_flush_failed g c = λ other. c.in-Err.ensures.none_unflushed (λ e. other (fault_moved c.in-Err.fault faults.Write e))

pub returns-clause-writes_spent : goal.returns-clause-writes_spent
returns-clause-writes_spent g c = λ e. c.in-Err.ensures.spent (fault_moved c.in-Err.fault faults.Write e)
