use Rattle.std.proofs.Common.{Bool, [], ◌++◌, inl}
use Rattle.std.proofs.KnownBytes.{Consumes-nil, Consumes-trans}
use Rattle.rh_trace.proofs.WrittenInTurn.{ok_no_error}
use Rattle.rh_shell.specs.declared.fault.ShellFault.TheVariants as faults
use Rattle.rh_shell.proofs.Taken.{taken_none, taken_then, fails_then, fault_moved}
use Rattle.rh_shell.proofs.Logged.{made_none, made_then, spent_then, counts_none, counts_then}
use Rattle.rh_shell.proofs.shell.read_lines.Goals as goal

pub loop-alloc-init : goal.loop-alloc-init
loop-alloc-init g c = record {
  read = ([], Consumes-nil (g.R.Read.remaining c.args.reader.now), taken_none [] [] c.args.line.now.items c.args.session.now (g.W.Write.contents c.args.writer.now) c.requires.begun);
  counted = c.requires.counted;
  none_failed = c.requires.none_failed;
  none_unflushed = c.requires.none_unflushed;
  made = made_none c.args.log.now.writes;
  no_read_failed = c.requires.no_read_failed;
  reads_counted = counts_none c.args.reads.now;
}

pub returns-in-Ok-true-clause-read : goal.returns-in-Ok-true-clause-read
returns-in-Ok-true-clause-read g c =
    let known = g.W.Write.contents in
    let reads = g.R.Read.remaining in
    let q = c.loop-alloc.invariant.read in
    let m = c.in-Ok-true.ensures.read in
    (q.0 ++ m.0, Consumes-trans (reads c.args.reader.now) (reads c.loop-alloc.reader) (reads c.read_more.new.reader) q.0 m.0 q.1 m.1, taken_then q.0 [] c.loop-alloc.line.items c.loop-alloc.session (known c.args.writer.now) (known c.loop-alloc.writer) q.2 (q.0 ++ m.0) c.read_more.new.line.items c.read_more.new.session (known c.read_more.new.writer) (m.2 q.0 q.2.0 q.2.1))

pub loop-alloc-preserved : goal.loop-alloc-preserved
loop-alloc-preserved g c =
    let known = g.W.Write.contents in
    let reads = g.R.Read.remaining in
    let q = c.loop-alloc.invariant.read in
    let m = c.in-Ok-false.ensures.read in
    record {
      read = (q.0 ++ m.0, Consumes-trans (reads c.args.reader.now) (reads c.loop-alloc.reader) (reads c.read_more.new.reader) q.0 m.0 q.1 m.1, taken_then q.0 [] c.loop-alloc.line.items c.loop-alloc.session (known c.args.writer.now) (known c.loop-alloc.writer) q.2 (q.0 ++ m.0) c.read_more.new.line.items c.read_more.new.session (known c.read_more.new.writer) (m.2 q.0 q.2.0 q.2.1));
      counted = c.in-Ok-false.ensures.counted;
      none_failed = c.in-Ok-false.ensures.none_failed (λ e. absurd (ok_no_error _ _ e));
      none_unflushed = c.in-Ok-false.ensures.none_unflushed (λ e. absurd (ok_no_error _ _ e));
      made = made_then c.args.log.now.writes c.loop-alloc.log.writes c.read_more.new.log.writes c.loop-alloc.invariant.made c.in-Ok-false.ensures.made;
      no_read_failed = c.in-Ok-false.ensures.no_read_failed (λ e. absurd (ok_no_error _ _ e));
      reads_counted = counts_then c.args.reads.now c.loop-alloc.reads c.read_more.new.reads c.loop-alloc.invariant.reads_counted c.in-Ok-false.ensures.reads_counted;
    }

pub returns-in-Err-clause-read : goal.returns-in-Err-clause-read
returns-in-Err-clause-read g c =
    let known = g.W.Write.contents in
    let reads = g.R.Read.remaining in
    let q = c.loop-alloc.invariant.read in
    let m = c.in-Err.ensures.read in
    (q.0 ++ m.0, Consumes-trans (reads c.args.reader.now) (reads c.loop-alloc.reader) (reads c.read_more.new.reader) q.0 m.0 q.1 m.1, fails_then q.0 [] c.loop-alloc.line.items c.loop-alloc.session (known c.args.writer.now) (known c.loop-alloc.writer) q.2 Bool (Unit {0}) (q.0 ++ m.0) c.in-Err.fault c.read_more.new.line.items c.read_more.new.session (known c.read_more.new.writer) (m.2 q.0 q.2.0 q.2.1))

pub returns-clause-read : goal.returns-clause-read
returns-clause-read g c = c.loop-alloc.invariant.read

pub returns-in-Err-clause-read_failed : goal.returns-in-Err-clause-read_failed
returns-in-Err-clause-read_failed g c = λ e. inl (c.in-Err.ensures.read_failed (fault_moved c.in-Err.fault faults.Read e))

pub returns-in-Err-clause-no_read_failed : goal.returns-in-Err-clause-no_read_failed
returns-in-Err-clause-no_read_failed g c = λ other. c.in-Err.ensures.no_read_failed (λ e. other (fault_moved c.in-Err.fault faults.Read e))

pub returns-in-Err-clause-failed : goal.returns-in-Err-clause-failed
returns-in-Err-clause-failed g c = λ e. c.in-Err.ensures.failed (fault_moved c.in-Err.fault faults.Write e)

pub returns-in-Err-clause-none_failed : goal.returns-in-Err-clause-none_failed
returns-in-Err-clause-none_failed g c = λ other. c.in-Err.ensures.none_failed (λ e. other (fault_moved c.in-Err.fault faults.Write e))

pub returns-in-Err-clause-none_unflushed : goal.returns-in-Err-clause-none_unflushed
returns-in-Err-clause-none_unflushed g c = λ other. c.in-Err.ensures.none_unflushed (λ e. other (fault_moved c.in-Err.fault faults.Write e))

pub returns-in-Err-clause-spent : goal.returns-in-Err-clause-spent
returns-in-Err-clause-spent g c = λ e. spent_then c.args.log.now c.loop-alloc.log c.read_more.new.log c.loop-alloc.invariant.made (c.in-Err.ensures.spent (fault_moved c.in-Err.fault faults.Write e))

pub returns-in-Ok-true-clause-made : goal.returns-in-Ok-true-clause-made
returns-in-Ok-true-clause-made g c = made_then c.args.log.now.writes c.loop-alloc.log.writes c.read_more.new.log.writes c.loop-alloc.invariant.made c.in-Ok-true.ensures.made

pub returns-in-Err-clause-made : goal.returns-in-Err-clause-made
returns-in-Err-clause-made g c = made_then c.args.log.now.writes c.loop-alloc.log.writes c.read_more.new.log.writes c.loop-alloc.invariant.made c.in-Err.ensures.made

pub returns-in-Ok-true-clause-reads_counted : goal.returns-in-Ok-true-clause-reads_counted
returns-in-Ok-true-clause-reads_counted g c = counts_then c.args.reads.now c.loop-alloc.reads c.read_more.new.reads c.loop-alloc.invariant.reads_counted c.in-Ok-true.ensures.reads_counted

pub returns-in-Err-clause-reads_counted : goal.returns-in-Err-clause-reads_counted
returns-in-Err-clause-reads_counted g c = counts_then c.args.reads.now c.loop-alloc.reads c.read_more.new.reads c.loop-alloc.invariant.reads_counted c.in-Err.ensures.reads_counted
