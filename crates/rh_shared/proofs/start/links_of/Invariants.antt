use Rattle.std.proofs.Common.{◌≡◌, length}
use Rattle.std.specs.Prelude.{map}
use Rattle.rh_replicator.specs.Link.{LinkState}
use Rattle.rh_shared.specs.Start.{AreNewLinks}
use Rattle.rh_shared.proofs.start.links_of.Given as goal

abbrev pub invariant-loop-replicator : goal.invariant-loop-replicator
invariant-loop-replicator g l =
    (length l.links.items ≡ l.replicator)
    × AreNewLinks 0 (map (λ (link : LinkState (g.row.A.Denot)). link.ring) l.links.items) l.ends.items
