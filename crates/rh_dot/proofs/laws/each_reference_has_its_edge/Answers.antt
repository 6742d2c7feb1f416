use Rattle.std.proofs.Common.{◌≡◌, subst, Some, arith}
use Rattle.std.specs.Prelude.{slice_get}
use Rattle.rh_dot.specs.Dot.{root_edge, field_edge}
use Rattle.rh_dot.proofs.Nodes.{among_roots, among_objects, root_there, object_there}
use Rattle.rh_dot.proofs.Edges.{root_of_edge, edge_of_root, object_of_edge, edge_of_object}
use Rattle.rh_dot.proofs.laws.each_reference_has_its_edge.Goals as goal

pub returns-clause-roots : goal.returns-clause-roots
returns-clause-roots c = λ g root to. (
  λ there. root_of_edge g.roots root to (among_roots g (root_edge root to) there (λ e. cc) (λ e. cc) (λ e. e)),
  λ held. root_there g (root_edge root to) (edge_of_root g.roots root to held),
)

pub returns-clause-fields : goal.returns-clause-fields
returns-clause-fields c = λ g number field to. (
  λ there.
      let found = object_of_edge 0 g.objects number field to (among_objects g (field_edge number field to) there (λ e. cc) (λ e. cc) (λ e. e)) in
      let same : found.0 ≡ number = omega (arith, found.1) in
      (found.2.0, subst (λ i. slice_get g.objects i ≡ Some found.2.0) same found.2.1, found.2.2),
  λ held. object_there g (field_edge number field to) (edge_of_object 0 g.objects number number field to held.0 (omega arith) held.1 held.2),
)
