use Rattle.rh_explain.proofs.columns.+columns_of.Given as goal

abbrev pub decreases-columns_of : goal.decreases-columns_of
decreases-columns_of l = l.index
