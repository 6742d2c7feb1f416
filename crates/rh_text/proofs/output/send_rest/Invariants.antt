use Rattle.std.proofs.Common.{◌≡◌, false}
use Rattle.rh_text.specs.IoLog.{CountsDown}
use Rattle.rh_text.specs.lemmas.Appends.{Sent}
use Rattle.rh_text.proofs.output.send_rest.Given as goal

abbrev pub invariant-loop-rest : goal.invariant-loop-rest
invariant-loop-rest g l = record {
  sent : Sent (g.W.Write.contents l.fn.writer) (g.W.Write.contents l.writer) l.text l.rest;
  none_failed : l.writes.failed ≡ false;
  counted : CountsDown l.fn.writes.left l.fn.writes l.writes;
}

abbrev pub decreases-loop-rest : goal.decreases-loop-rest
decreases-loop-rest g l = l.writes.left
