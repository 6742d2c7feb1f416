-- Edges: exactly one for each reference of a root or a field.
use Rattle.std.proofs.Common.{◌≡◌, ℕ, zero, suc, ◌+◌, ◌<◌, Bool, true, false, List, [], ◌∷◌, ◌++◌, length, map, Some, refl, sym, ap, subst, inl, inr, ◌∙◌, arith}
use Rattle.std.specs.Prelude.{◌⊎◌, Contains, slice_get, slice_index_or}
use Rattle.std.proofs.lemmas.List.Elements.{Contains-append_left, Contains-append_right, Contains-append_cases}
use Rattle.std.proofs.lemmas.Option.{same_Some}
use Rattle.rh_layout.specs.declared.value.Value.{Value}
use Rattle.rh_layout.specs.declared.value.Value.TheVariants.{Nil, Int, Ref}
use Rattle.rh_layout.specs.declared.command.RootId.{RootId}
use Rattle.rh_model.specs.Plain.{PlainObject}
use Rattle.rh_dump.specs.Dump.{GraphState, IsGraph, AreMetBefore, met_after, root_values}
use Rattle.rh_snapshot.specs.Snapshot.{SnapshotEdge, SnapshotNode, from_field, from_root, field_edge, field_edges, object_edges, object_node, object_nodes, root_edge, root_edges, snapshot_edges}
use Rattle.rh_snapshot.specs.Text.{edge_text, is_still_first, listed}
use Rattle.rh_snapshot.proofs.Counts.{snapshot_edges-are}
use Rattle.rh_snapshot.proofs.Parts.{edges-append}

-- ---- an item of a list is the first or a later one

module _ {X : Type 0} where
  at_index : (x : X) (xs : List X) (y : X) (k : ℕ) → k < length (x ∷ xs) → slice_index_or (x ∷ xs) k y ≡ y → (x ≡ y) ⊎ Contains xs y
  at_index x xs y zero within is = inl is
  at_index x xs y (suc k) within is = inr (k, omega (arith, within), is)

  first_or_later : (x : X) (xs : List X) (y : X) → Contains (x ∷ xs) y → (x ≡ y) ⊎ Contains xs y
  first_or_later x xs y there = at_index x xs y there.0 there.1 there.2

  none_within : (y : X) → Contains {X = X} [] y → ⊥
  none_within y there = absurd (omega (arith, there.1))

  first : (x : X) (xs : List X) → Contains (x ∷ xs) x
  first x xs = (0, omega arith, refl)

-- ---- edges of roots

-- the root at this place holds the reference, of those that stand from a place on
abbrev RootAt : ℕ → List (RootId × Value) → ℕ → ℕ → Type 0
RootAt position roots p t = (i : ℕ) × (p ≡ position + i) × ((root : RootId) × (slice_get roots i ≡ Some (root, Ref t)))

root_of_own : (position : ℕ) (v : Value) (p t : ℕ) → Contains (root_edge position v) (from_root p t) → (p ≡ position) × (v ≡ Ref t)
root_of_own position Nil p t there = absurd (none_within (from_root p t) there)
root_of_own position (Int n) p t there = absurd (none_within (from_root p t) there)
root_of_own position (Ref to) p t there =
    elim (first_or_later (from_root position to) [] (from_root p t) there) [
      | inl same ↦ let a : p ≡ position = cc in let d : to ≡ t = cc in (a, ap (λ (k : ℕ). Ref k) d)
      | inr none ↦ absurd (none_within (from_root p t) none)
    ]

pub root_of_edge : (position : ℕ) (roots : List (RootId × Value)) (p t : ℕ) → Contains (root_edges position roots) (from_root p t) → RootAt position roots p t
root_of_edge position [] p t there = absurd (none_within (from_root p t) there)
root_of_edge position (x ∷ roots) p t there =
    elim (Contains-append_cases (root_edge position x.1) (root_edges (position + 1) roots) (from_root p t) there) [
      | inl own ↦ let is = root_of_own position x.1 p t own in (0, omega (arith, is.0), (x.0, ap (λ (w : Value). Some (x.0, w)) is.1))
      | inr more ↦ let found = root_of_edge (position + 1) roots p t more in (suc found.0, omega (arith, found.1), found.2)
    ]

pub edge_of_root : (position : ℕ) (roots : List (RootId × Value)) (p i t : ℕ) (root : RootId) → p ≡ position + i → slice_get roots i ≡ Some (root, Ref t) → Contains (root_edges position roots) (from_root p t)
edge_of_root position [] p i t root at is = absurd (cc)
edge_of_root position (x ∷ roots) p zero t root at is =
    let e : position ≡ p = omega (arith, at) in
    let here : Contains (root_edges position ((root, Ref t) ∷ roots)) (from_root position t) = first (from_root position t) (root_edges (position + 1) roots) in
    subst (λ (m : ℕ). Contains (root_edges position (x ∷ roots)) (from_root m t)) e (subst (λ (w : RootId × Value). Contains (root_edges position (w ∷ roots)) (from_root position t)) (sym (same_Some x (root, Ref t) is)) here)
edge_of_root position (x ∷ roots) p (suc i) t root at is =
    Contains-append_right (root_edge position x.1) (root_edges (position + 1) roots) (from_root p t) (edge_of_root (position + 1) roots p i t root (omega (arith, at)) is)

-- ---- edges of fields

-- the field at this place holds the reference, of those that are numbered from a number on
abbrev HeldAt : ℕ → List Value → ℕ → ℕ → Type 0
HeldAt field values f t = (i : ℕ) × (f ≡ field + i) × (slice_get values i ≡ Some (Ref t))

field_of_own : (field : ℕ) (v : Value) (f t : ℕ) → Contains (field_edge field v) (from_field f t) → (f ≡ field) × (v ≡ Ref t)
field_of_own field Nil f t there = absurd (none_within (from_field f t) there)
field_of_own field (Int k) f t there = absurd (none_within (from_field f t) there)
field_of_own field (Ref to) f t there =
    elim (first_or_later (from_field field to) [] (from_field f t) there) [
      | inl same ↦ let b : f ≡ field = cc in let d : to ≡ t = cc in (b, ap (λ (k : ℕ). Ref k) d)
      | inr none ↦ absurd (none_within (from_field f t) none)
    ]

pub field_of_edge : (field : ℕ) (values : List Value) (f t : ℕ) → Contains (field_edges field values) (from_field f t) → HeldAt field values f t
field_of_edge field [] f t there = absurd (none_within (from_field f t) there)
field_of_edge field (v ∷ values) f t there =
    elim (Contains-append_cases (field_edge field v) (field_edges (field + 1) values) (from_field f t) there) [
      | inl own ↦ let is = field_of_own field v f t own in (0, omega (arith, is.0), ap (λ (w : Value). Some w) is.1)
      | inr more ↦ let found = field_of_edge (field + 1) values f t more in (suc found.0, omega (arith, found.1), found.2)
    ]

pub edge_of_field : (field : ℕ) (values : List Value) (f i t : ℕ) → f ≡ field + i → slice_get values i ≡ Some (Ref t) → Contains (field_edges field values) (from_field f t)
edge_of_field field [] f i t at is = absurd (cc)
edge_of_field field (v ∷ values) f zero t at is =
    let e : field ≡ f = omega (arith, at) in
    let here : Contains (field_edges field (Ref t ∷ values)) (from_field field t) = first (from_field field t) (field_edges (field + 1) values) in
    subst (λ (m : ℕ). Contains (field_edges field (v ∷ values)) (from_field m t)) e (subst (λ (w : Value). Contains (field_edges field (w ∷ values)) (from_field field t)) (sym (same_Some v (Ref t) is)) here)
edge_of_field field (v ∷ values) f (suc i) t at is =
    Contains-append_right (field_edge field v) (field_edges (field + 1) values) (from_field f t) (edge_of_field (field + 1) values f i t (omega (arith, at)) is)

-- ---- the node of an object

pub node_at : (number : ℕ) (objects : List PlainObject) (n i : ℕ) (object : PlainObject) → n ≡ number + i → slice_get objects i ≡ Some object → slice_get (object_nodes number objects) i ≡ Some (object_node n object)
node_at number [] n i object at is = absurd (cc)
node_at number (x ∷ objects) n zero object at is =
    let e : number ≡ n = omega (arith, at) in
    ap (λ (m : ℕ). Some (object_node m x)) e ∙ ap (λ (o : PlainObject). Some (object_node n o)) (same_Some x object is)
node_at number (x ∷ objects) n (suc i) object at is = node_at (number + 1) objects n i object (omega (arith, at)) is

-- ---- all edges with commas between them: where no root holds a reference there is no object

met_none : (position : ℕ) (roots : List (RootId × Value)) → root_edges position roots ≡ [] → met_after 0 (root_values roots) ≡ 0
met_none position [] none = refl
met_none position ((root, Nil) ∷ roots) none = met_none (position + 1) roots none
met_none position ((root, Int n) ∷ roots) none = met_none (position + 1) roots none
met_none position ((root, Ref to) ∷ roots) none = absurd (cc)

no_objects : (met : ℕ) (objects : List PlainObject) → met ≡ 0 → AreMetBefore 0 met objects → objects ≡ []
no_objects met [] none before = refl
no_objects met (object ∷ others) none before = absurd (omega (arith, none, before.0))

after_roots : (roots : List SnapshotEdge) (objects : List SnapshotEdge) → (roots ≡ [] → objects ≡ []) → listed (is_still_first true roots) (map edge_text objects) ≡ listed false (map edge_text objects)
after_roots [] objects none = ap (λ (e : List SnapshotEdge). listed true (map edge_text e)) (none refl) ∙ ap (λ (e : List SnapshotEdge). listed false (map edge_text e)) (sym (none refl))
after_roots (root ∷ roots) objects none = refl

pub edges-listed : (g : GraphState) → IsGraph g → listed true (map edge_text (snapshot_edges g)) ≡ listed true (map edge_text (root_edges 0 g.roots)) ++ listed false (map edge_text (object_edges g.objects))
edges-listed g is =
    let roots = root_edges 0 g.roots in
    let objects = object_edges g.objects in
    let none : roots ≡ [] → objects ≡ [] = λ empty. ap object_edges (no_objects (met_after 0 (root_values g.roots)) g.objects (met_none 0 g.roots empty) is.met_before) in
    ap (λ (e : List SnapshotEdge). listed true (map edge_text e)) (snapshot_edges-are g)
    ∙ edges-append true roots objects
    ∙ ap (λ (t : List ℕ). listed true (map edge_text roots) ++ t) (after_roots roots objects none)
