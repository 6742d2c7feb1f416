use Rattle.std.proofs.Common.{◌≡◌, ℕ, suc, ◌+◌, Some, refl, subst, arith}
use Rattle.std.specs.Prelude.{slice_get}
use Rattle.rh_snapshot.specs.Snapshot.{object_node, snapshot_nodes}
use Rattle.rh_snapshot.proofs.Counts.{all_nodes_count}
use Rattle.rh_snapshot.proofs.Edges.{node_at}
use Rattle.rh_snapshot.proofs.laws.each_object_has_one_node.Goals as goal

pub returns-clause-roots : goal.returns-clause-roots
returns-clause-roots c = λ g. refl

pub returns-clause-objects : goal.returns-clause-objects
returns-clause-objects c = λ g number object is.
    let next : suc number ≡ number + 1 = omega arith in
    subst (λ (k : ℕ). slice_get (snapshot_nodes g) k ≡ Some (object_node number object)) next (node_at 0 g.objects number number object (omega arith) is)

pub returns-clause-no_others : goal.returns-clause-no_others
returns-clause-no_others c = all_nodes_count
