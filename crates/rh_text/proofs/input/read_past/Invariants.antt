use Rattle.std.proofs.Common.{◌≡◌, ◌≤◌, length, false}
use Rattle.std.specs.Io.KnownBytes.{Consumes}
use Rattle.rh_text.specs.IoLog.{CountsDown}
use Rattle.rh_text.proofs.input.read_past.Given as goal

abbrev pub invariant-loop-chunk : goal.invariant-loop-chunk
invariant-loop-chunk g l = record {
  taken : Consumes (g.R.Read.remaining l.fn.reader) (g.R.Read.remaining l.reader) l.text.items;
  none_failed : l.reads.failed ≡ false;
  not_ended : l.reads.ended ≡ l.fn.reads.ended;
  counted : CountsDown l.fn.reads.left l.fn.reads l.reads;
  few : length l.text.items ≤ l.fn.limit;
}

abbrev pub decreases-loop-chunk : goal.decreases-loop-chunk
decreases-loop-chunk g l = l.reads.left
