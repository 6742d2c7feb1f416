use Rattle.benches.proofs.gc_bench.+array_of.Given as goal

abbrev pub decreases-array_of : goal.decreases-array_of
decreases-array_of g l = l.depth
