-- Graphs are stored alike exactly where their texts are equal.
use Rattle.std.proofs.Common.{◌≡◌, List, sym, ap, ◌∙◌}
use Rattle.rh_layout.specs.declared.value.Value.{Value}
use Rattle.rh_layout.specs.declared.command.RootId.{RootId}
use Rattle.rh_layout.specs.declared.shape.Shape.{Shape}
use Rattle.rh_dump.specs.Dump.{GraphState, IsGraph}
use Rattle.rh_dump.specs.Graph.{FlatGraph, graph_in, IsFilled}
use Rattle.rh_dump.specs.texts.Line.{dump_text}
use Rattle.rh_dump.proofs.numbers.ObjectsIn.{joined, shapes_of, shapes_of-objects_in, joined-objects_in}
use Rattle.rh_dump.proofs.texts.SpelledIsRead.{dump_text-injective}

-- two stored graphs
module _ (a b : FlatGraph) (x y : GraphState) (one : graph_in a ≡ x) (other : graph_in b ≡ y) (a_is : IsFilled a × IsGraph (graph_in a)) (b_is : IsFilled b × IsGraph (graph_in b)) where
  same_graph : dump_text x ≡ dump_text y → graph_in a ≡ graph_in b
  same_graph e = dump_text-injective (graph_in a) (graph_in b) a_is.1 b_is.1 (ap dump_text one ∙ e ∙ sym (ap dump_text other))

  pub flat_roots : dump_text x ≡ dump_text y → a.roots ≡ b.roots
  flat_roots e = ap (λ (g : GraphState). g.roots) (same_graph e)

  pub flat_shapes : dump_text x ≡ dump_text y → a.shapes ≡ b.shapes
  flat_shapes e = sym (shapes_of-objects_in a.shapes a.values a_is.0) ∙ ap (λ (g : GraphState). shapes_of g.objects) (same_graph e) ∙ shapes_of-objects_in b.shapes b.values b_is.0

  pub flat_values : dump_text x ≡ dump_text y → a.values ≡ b.values
  flat_values e = sym (joined-objects_in a.shapes a.values a_is.0) ∙ ap (λ (g : GraphState). joined g.objects) (same_graph e) ∙ joined-objects_in b.shapes b.values b_is.0

abbrev pub flat_at : List (RootId × Value) → List Shape → List Value → FlatGraph
flat_at roots shapes values = record { roots = roots; shapes = shapes; values = values }

-- graphs that are stored alike have one text
pub same_flat : (a b : FlatGraph) (x y : GraphState) → graph_in a ≡ x → graph_in b ≡ y → a.roots ≡ b.roots → a.shapes ≡ b.shapes → a.values ≡ b.values → dump_text x ≡ dump_text y
same_flat a b x y one other r s v =
    let same : graph_in a ≡ graph_in b =
    ap (λ (rs : List (RootId × Value)). graph_in (flat_at rs a.shapes a.values)) r
    ∙ ap (λ (ss : List Shape). graph_in (flat_at b.roots ss a.values)) s
    ∙ ap (λ (vs : List Value). graph_in (flat_at b.roots b.shapes vs)) v in
    ap dump_text (sym one ∙ same ∙ other)
