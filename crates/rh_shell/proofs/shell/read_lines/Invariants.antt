use Rattle.std.proofs.Common.{◌≡◌, ℕ, List, [], false}
use Rattle.std.specs.Io.KnownBytes.{Consumes}
use Rattle.rh_text.specs.IoLog.{CountsDown, MadeSince}
use Rattle.rh_shell.specs.Session.{IsCounted}
use Rattle.rh_shell.specs.Typing.{Taken}
use Rattle.rh_shell.proofs.shell.read_lines.Given as goal

abbrev pub invariant-loop-alloc : goal.invariant-loop-alloc
invariant-loop-alloc g l = record {
  read : (typed : List ℕ) × Consumes (g.R.Read.remaining l.fn.reader) (g.R.Read.remaining l.reader) typed × Taken typed [] l.line.items l.session (g.W.Write.contents l.fn.writer) (g.W.Write.contents l.writer);
  counted : IsCounted l.session;
  none_failed : l.log.writes.failed ≡ false;
  none_unflushed : l.log.flush_failed ≡ false;
  made : MadeSince 0 l.fn.log.writes l.log.writes;
  no_read_failed : l.reads.failed ≡ false;
  reads_counted : CountsDown l.fn.reads.left l.fn.reads l.reads;
}

abbrev pub decreases-loop-alloc : goal.decreases-loop-alloc
decreases-loop-alloc g l = l.reads.left
