use Rattle.rh_snapshot.proofs.Edges.{edges-listed}
use Rattle.rh_snapshot.proofs.laws.edges_are_listed.Goals as goal

pub returns : goal.returns
returns c = edges-listed
