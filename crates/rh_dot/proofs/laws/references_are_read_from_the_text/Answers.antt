use Rattle.std.proofs.Common.{◌≡◌, subst, Some, arith}
use Rattle.std.specs.Prelude.{slice_get}
use Rattle.rh_dot.specs.Dot.{DotLine, root_edge, field_edge, dot_line_text}
use Rattle.rh_dot.proofs.Edges.{root_of_edge, edge_of_root, object_of_edge, edge_of_object}
use Rattle.rh_dot.proofs.Nodes.{among_roots, among_objects, root_there, object_there}
use Rattle.rh_dot.proofs.Texts.{IsSmallLine, edge_of_text, text_of_edge, root_edge_of, field_edge_of}
use Rattle.rh_dot.proofs.laws.references_are_read_from_the_text.Goals as goal

pub returns-clause-roots : goal.returns-clause-roots
returns-clause-roots c = λ g root to is owner slot small.
    let edge = root_edge root to in
    let own : (l : DotLine) → IsSmallLine l → dot_line_text l ≡ dot_line_text edge → l ≡ edge = λ l few e. root_edge_of l root to few (omega (arith, owner), omega (arith, slot), omega (arith, small)) e in (
      λ there. root_of_edge g.roots root to (among_roots g edge (edge_of_text g is edge own there) (λ e. cc) (λ e. cc) (λ e. e)),
      λ held. text_of_edge g is edge own (root_there g edge (edge_of_root g.roots root to held)),
    )

pub returns-clause-fields : goal.returns-clause-fields
returns-clause-fields c = λ g number field to is numbers fields small.
    let edge = field_edge number field to in
    let own : (l : DotLine) → IsSmallLine l → dot_line_text l ≡ dot_line_text edge → l ≡ edge = λ l few e. field_edge_of l number field to few (omega (arith, numbers), omega (arith, fields), omega (arith, small)) e in (
      λ there.
          let found = object_of_edge 0 g.objects number field to (among_objects g edge (edge_of_text g is edge own there) (λ e. cc) (λ e. cc) (λ e. e)) in
          let same : found.0 ≡ number = omega (arith, found.1) in
          (found.2.0, subst (λ i. slice_get g.objects i ≡ Some found.2.0) same found.2.1, found.2.2),
      λ held. text_of_edge g is edge own (object_there g edge (edge_of_object 0 g.objects number number field to held.0 (omega arith) held.1 held.2)),
    )
