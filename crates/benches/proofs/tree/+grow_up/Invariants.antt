use Rattle.benches.proofs.tree.+grow_up.Given as goal

abbrev pub decreases-grow_up : goal.decreases-grow_up
decreases-grow_up g l = l.depth
