use Rattle.std.proofs.Common.{◌≡◌, drop}
use Rattle.rh_why.specs.Path.{with_roots}
use Rattle.rh_why.proofs.meeting.meet_roots.Given as goal

abbrev pub invariant-loop-root : goal.invariant-loop-root
invariant-loop-root g l = with_roots l.holders.items (drop l.root-index l.roots) ≡ with_roots l.fn.holders.items l.roots
