-- The parts of the whole text that are sent.
use Rattle.std.proofs.Common.{◌≡◌, ℕ, ◌+◌, ◌-◌, suc, List, [], ◌∷◌, ◌++◌, length, take, drop, refl, sym, ap, ap₂, ◌∙◌, arith}
use Rattle.std.specs.Prelude.{codes}
use Rattle.std.specs.List.{filter, flat_map}
use Rattle.std.proofs.lemmas.List.{length-drop, take-append-drop}
use Rattle.rh_layout.specs.declared.value.Value.{Value}
use Rattle.rh_layout.specs.declared.command.RootId.{RootId}
use Rattle.rh_layout.specs.declared.shape.Shape.{Shape}
use Rattle.rh_layout.specs.Value.{is_reference}
use Rattle.rh_model.specs.Plain.{PlainObject}
use Rattle.rh_dump.specs.Dump.{GraphState}
use Rattle.rh_dump.specs.Graph.{objects_in, total}
use Rattle.rh_snapshot.specs.Snapshot.{holds_reference, roots_node, snapshot_edges, snapshot_nodes, the_roots}
use Rattle.rh_snapshot.specs.Text.{counts_text, empty_text, kind_text, node_text, numbers_text}
use Rattle.rh_snapshot.proofs.Counts.{all_nodes_count, edges_count, references, roots_count}

-- ---- objects whose fields are stored one after the other

length-objects_in : (shapes : List Shape) (values : List Value) → length (objects_in shapes values) ≡ length shapes
length-objects_in [] values = refl
length-objects_in (shape ∷ shapes) values = ap suc (length-objects_in shapes (drop shape.fields values))

none_left : (values : List Value) → 0 ≡ length values → [] ≡ values
none_left [] e = refl
none_left (v ∷ vs) e = absurd (omega (arith, e))

joined-objects_in : (shapes : List Shape) (values : List Value) → total shapes ≡ length values → flat_map (λ (o : PlainObject). o.fields) (objects_in shapes values) ≡ values
joined-objects_in [] values e = none_left values e
joined-objects_in (shape ∷ shapes) values e =
    let count = shape.fields in
    let rest : length (drop count values) ≡ length values - count = length-drop count values in
    let others = joined-objects_in shapes (drop count values) (omega (arith, e, rest)) in
    ap (λ (vs : List Value). take count values ++ vs) others ∙ take-append-drop count values

-- ---- the parts

abbrev pub edges_open : List ℕ
edges_open = codes "],\n\"edges\":["

abbrev pub end_text : List ℕ
end_text = codes "]}\n"

abbrev pub names_text : List ℕ
names_text = empty_text ++ (codes "\"(roots)\"" ++ (44 ∷ 10 ∷ (codes "\"object\"" ++ (44 ∷ 10 ∷ codes "\"raw object\""))))

abbrev pub counts_of : GraphState → List ℕ
counts_of g = counts_text (length (snapshot_nodes g)) (length (snapshot_edges g))

abbrev pub roots_text : GraphState → List ℕ
roots_text g = node_text (roots_node g)

module _ (g : GraphState) (shapes : List Shape) (values : List Value) (roots : List (RootId × Value)) (root_references : ℕ) where
  objects_are : objects_in shapes values ≡ g.objects → length shapes ≡ length g.objects
  objects_are is = sym (length-objects_in shapes values) ∙ ap length is

  root_references_are : roots ≡ g.roots → root_references ≡ length (filter holds_reference roots) → root_references ≡ length (filter holds_reference g.roots)
  root_references_are is counted = counted ∙ ap (λ (r : List (RootId × Value)). length (filter holds_reference r)) is

  pub counts_sent : (others : ℕ) (sent : List ℕ) → objects_in shapes values ≡ g.objects → total shapes ≡ length values → roots ≡ g.roots → root_references ≡ length (filter holds_reference roots)
      → others ≡ length (filter is_reference values) → sent ≡ counts_text (length shapes + 1) (root_references + others) → (rest : List ℕ) → counts_of g ++ rest ≡ sent ++ rest
  counts_sent others sent objects filled is counted fields text rest =
      let long = objects_are objects in
      let nodes : length (snapshot_nodes g) ≡ length shapes + 1 = all_nodes_count g ∙ ap (λ (n : ℕ). n + 1) (sym long) in
      let own = root_references_are is counted in
      let joined : references (flat_map (λ (o : PlainObject). o.fields) g.objects) ≡ references values = ap (λ (objects : List PlainObject). references (flat_map (λ (o : PlainObject). o.fields) objects)) (sym objects) ∙ ap references (joined-objects_in shapes values filled) in
      let edges : length (snapshot_edges g) ≡ root_references + others = omega (arith, edges_count g, own, joined, fields) in
      ap (λ (t : List ℕ). t ++ rest) (ap₂ counts_text nodes edges ∙ sym text)

  pub roots_sent : (sent : List ℕ) → objects_in shapes values ≡ g.objects → roots ≡ g.roots → root_references ≡ length (filter holds_reference roots)
      → sent ≡ kind_text the_roots ++ numbers_text (length shapes) 0 root_references → (rest : List ℕ) → roots_text g ++ rest ≡ sent ++ rest
  roots_sent sent objects is counted text rest =
      let own = roots_count 0 g.roots ∙ sym (root_references_are is counted) in
      let numbers = ap₂ (λ (id edges : ℕ). kind_text the_roots ++ numbers_text id 0 edges) (sym (objects_are objects)) own in
      ap (λ (t : List ℕ). t ++ rest) (numbers ∙ sym text)
