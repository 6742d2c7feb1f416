use Rattle.std.proofs.Common.{◌≤◌, length, drop}
use Rattle.rh_shared.specs.Shares.{calls_of}
use Rattle.rh_shared.proofs.Differences.{Goes}
use Rattle.rh_shared.proofs.closing.difference_of.Given as goal

-- what was found, and the calls that are left, are the owner's calls
abbrev pub invariant-loop-call : goal.invariant-loop-call
invariant-loop-call l = record {
  goes : Goes l.found l.share (calls_of l.owner (drop l.call-index l.calls)) (calls_of l.owner l.calls);
  within : l.found ≤ length l.share;
  few : l.found ≤ l.call-index;
}
