use Rattle.benches.proofs.tree.+grow_down.Given as goal

abbrev pub decreases-grow_down : goal.decreases-grow_down
decreases-grow_down g l = l.depth
