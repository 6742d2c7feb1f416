use Rattle.std.proofs.Common.{◌≡◌, ◌≤◌, false, length}
use Rattle.std.specs.Io.KnownBytes.{Consumes}
use Rattle.rh_text.specs.IoLog.{CountsDown}
use Rattle.rh_text.proofs.input.read_all.Given as goal

abbrev pub invariant-loop-chunk : goal.invariant-loop-chunk
invariant-loop-chunk g l = record {
  taken : Consumes (g.R.Read.remaining l.fn.reader) (g.R.Read.remaining l.reader) l.text.items;
  few : length l.text.items ≤ 16777216;
  none_failed : l.reads.failed ≡ false;
  not_ended : l.reads.ended ≡ l.fn.reads.ended;
  counted : CountsDown l.fn.reads.left l.fn.reads l.reads;
}

abbrev pub decreases-loop-chunk : goal.decreases-loop-chunk
decreases-loop-chunk g l = l.reads.left
