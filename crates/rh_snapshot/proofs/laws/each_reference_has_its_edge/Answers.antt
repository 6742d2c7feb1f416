use Rattle.std.proofs.Common.{◌≡◌, ℕ, Some, subst, sym, arith}
use Rattle.std.specs.Prelude.{slice_get}
use Rattle.rh_layout.specs.declared.value.Value.TheVariants.{Ref}
use Rattle.rh_snapshot.proofs.Edges.{edge_of_field, edge_of_root, field_of_edge, root_of_edge}
use Rattle.rh_snapshot.proofs.laws.each_reference_has_its_edge.Goals as goal

pub returns-clause-roots : goal.returns-clause-roots
returns-clause-roots c = λ g position to. (
  λ there.
      let found = root_of_edge 0 g.roots position to there in
      let same : found.0 ≡ position = omega (arith, found.1) in
      (found.2.0, subst (λ (i : ℕ). slice_get g.roots i ≡ Some (found.2.0, Ref to)) same found.2.1),
  λ held. edge_of_root 0 g.roots position position to held.0 (omega arith) held.1,
)

pub returns-clause-fields : goal.returns-clause-fields
returns-clause-fields c = λ number field to object. (
  λ there.
      let found = field_of_edge 0 object.fields field to there in
      let same : found.0 ≡ field = omega (arith, found.1) in
      subst (λ (i : ℕ). slice_get object.fields i ≡ Some (Ref to)) same found.2,
  λ held. edge_of_field 0 object.fields field field to (omega arith) held,
)
