use Rattle.benches.proofs.tree.+count.Given as goal

abbrev pub decreases-count : goal.decreases-count
decreases-count g l = l.depth
