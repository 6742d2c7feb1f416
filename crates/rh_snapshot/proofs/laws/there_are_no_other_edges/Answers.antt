use Rattle.rh_snapshot.proofs.Counts.{edges_are_references}
use Rattle.rh_snapshot.proofs.laws.there_are_no_other_edges.Goals as goal

pub returns : goal.returns
returns c = edges_are_references
