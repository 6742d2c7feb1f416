use Rattle.rh_shared.proofs.NewLinks.{new_links-more}
use Rattle.rh_shared.proofs.start.links_of.Goals as goal

pub loop-replicator-preserved : goal.loop-replicator-preserved
loop-replicator-preserved g c =
    new_links-more c.loop-replicator.replicator c.loop-replicator.links.items c.push.new.self.items c.loop-replicator.ends.items c.push-in-loop-replicator.new.self.items c.in_ok-link.link c.in_ok-link.end
    c.loop-replicator.invariant.0 c.loop-replicator.invariant.1 c.in_ok-link.ensures.made c.in_ok-push.ensures.items c.in_ok-push-2.ensures.items
