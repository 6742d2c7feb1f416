use Rattle.std.proofs.Common.{◌≡◌, subst, Some, arith}
use Rattle.std.specs.Prelude.{slice_get}
use Rattle.rh_dot.specs.Dot.{root_node, object_node}
use Rattle.rh_dot.proofs.Nodes.{among_roots, among_objects, root_there, object_there, root_of_node, node_of_root, object_of_node, node_of_object}
use Rattle.rh_dot.proofs.laws.each_root_and_object_has_its_node.Goals as goal

pub returns-clause-roots : goal.returns-clause-roots
returns-clause-roots c = λ g root value. (
  λ there. root_of_node g.roots root value (among_roots g (root_node root value) there (λ e. cc) (λ e. cc) (λ e. e)),
  λ held. root_there g (root_node root value) (node_of_root g.roots root value held),
)

pub returns-clause-objects : goal.returns-clause-objects
returns-clause-objects c = λ g number object. (
  λ there.
      let found = object_of_node 0 g.objects number object (among_objects g (object_node number object) there (λ e. cc) (λ e. cc) (λ e. e)) in
      let same : found.0 ≡ number = omega (arith, found.1) in
      subst (λ i. slice_get g.objects i ≡ Some object) same found.2,
  λ is. object_there g (object_node number object) (node_of_object 0 g.objects number number object (omega arith) is),
)
