-- Edges among the lines: exactly one for each reference of a root or a field.
use Rattle.std.proofs.Common.{◌≡◌, ℕ, zero, suc, ◌+◌, List, [], ◌∷◌, ◌++◌, Some, refl, sym, ap, subst, inl, inr, arith}
use Rattle.std.specs.Prelude.{Contains, slice_get}
use Rattle.std.specs.List.{flat_map}
use Rattle.std.proofs.lemmas.List.Elements.{Contains-append_left, Contains-append_right, Contains-append_cases}
use Rattle.std.proofs.lemmas.Option.{same_Some}
use Rattle.rh_layout.specs.declared.value.Value.{Value}
use Rattle.rh_layout.specs.declared.value.Value.TheVariants.{Nil, Int, Ref}
use Rattle.rh_layout.specs.declared.command.RootId.{RootId}
use Rattle.rh_model.specs.Plain.{PlainObject}
use Rattle.rh_dot.specs.Dot.{root_node, root_edge, object_node, field_edge, root_edges, edges_of, root_lines, field_edges, object_lines}
use Rattle.rh_dot.proofs.Nodes.{first_or_later, none_within, first, later}

-- ---- edges of roots

same_root_edge : (root r : RootId) (to t : ℕ) → root_edge root to ≡ root_edge r t → ◌≡◌ {A = RootId × Value} (root, Ref to) (r, Ref t)
same_root_edge root r to t e = cc

root_of_own : (root : RootId) (v : Value) (r : RootId) (t : ℕ) → Contains (root_edges root v) (root_edge r t) → ◌≡◌ {A = RootId × Value} (root, v) (r, Ref t)
root_of_own root Nil r t there = absurd (none_within (root_edge r t) there)
root_of_own root (Int n) r t there = absurd (none_within (root_edge r t) there)
root_of_own root (Ref to) r t there =
    elim (first_or_later (root_edge root to) [] (root_edge r t) there) [ inl same ↦ same_root_edge root r to t same | inr none ↦ absurd (none_within (root_edge r t) none) ]

pub root_of_edge : (roots : List (RootId × Value)) (r : RootId) (t : ℕ) → Contains (flat_map root_lines roots) (root_edge r t) → Contains roots (r, Ref t)
root_of_edge [] r t there = absurd (none_within (root_edge r t) there)
root_of_edge (x ∷ roots) r t there =
    elim (Contains-append_cases (root_lines x) (flat_map root_lines roots) (root_edge r t) there) [
      | inl own ↦ elim (first_or_later (root_node x.0 x.1) (root_edges x.0 x.1) (root_edge r t) own) [
        | inl same ↦ absurd (cc)
        | inr edge ↦ subst (Contains (x ∷ roots)) (root_of_own x.0 x.1 r t edge) (first x roots)
      ]
      | inr more ↦ later x roots (r, Ref t) (root_of_edge roots r t more)
    ]

pub edge_of_root : (roots : List (RootId × Value)) (r : RootId) (t : ℕ) → Contains roots (r, Ref t) → Contains (flat_map root_lines roots) (root_edge r t)
edge_of_root [] r t there = absurd (none_within (r, Ref t) there)
edge_of_root (x ∷ roots) r t there =
    elim (first_or_later x roots (r, Ref t) there) [
      | inl same ↦ Contains-append_left (root_lines x) (flat_map root_lines roots) (root_edge r t) (subst (λ (y : RootId × Value). Contains (root_lines y) (root_edge r t)) (sym same) (later (root_node r (Ref t)) (root_edge r t ∷ []) (root_edge r t) (first (root_edge r t) [])))
      | inr more ↦ Contains-append_right (root_lines x) (flat_map root_lines roots) (root_edge r t) (edge_of_root roots r t more)
    ]

-- ---- edges of fields

-- the field at this place holds the reference, of those that are numbered from a number on
abbrev HeldAt : ℕ → List Value → ℕ → ℕ → Type 0
HeldAt field values f t = (i : ℕ) × (f ≡ field + i) × (slice_get values i ≡ Some (Ref t))

field_of_own : (number field : ℕ) (v : Value) (n f t : ℕ) → Contains (edges_of number field v) (field_edge n f t) → (n ≡ number) × (f ≡ field) × (v ≡ Ref t)
field_of_own number field Nil n f t there = absurd (none_within (field_edge n f t) there)
field_of_own number field (Int k) n f t there = absurd (none_within (field_edge n f t) there)
field_of_own number field (Ref to) n f t there =
    elim (first_or_later (field_edge number field to) [] (field_edge n f t) there) [
      | inl same ↦ let a : n ≡ number = cc in let b : f ≡ field = cc in let d : to ≡ t = cc in (a, b, ap (λ (k : ℕ). Ref k) d)
      | inr none ↦ absurd (none_within (field_edge n f t) none)
    ]

field_of_edge : (number field : ℕ) (values : List Value) (n f t : ℕ) → Contains (field_edges number field values) (field_edge n f t) → (n ≡ number) × HeldAt field values f t
field_of_edge number field [] n f t there = absurd (none_within (field_edge n f t) there)
field_of_edge number field (v ∷ values) n f t there =
    elim (Contains-append_cases (edges_of number field v) (field_edges number (field + 1) values) (field_edge n f t) there) [
      | inl own ↦ let is = field_of_own number field v n f t own in (is.0, (0, omega (arith, is.1), ap (λ (w : Value). Some w) is.2))
      | inr more ↦ let found = field_of_edge number (field + 1) values n f t more in (found.0, (suc found.1.0, omega (arith, found.1.1), found.1.2))
    ]

edge_of_field : (number field : ℕ) (values : List Value) (f i t : ℕ) → f ≡ field + i → slice_get values i ≡ Some (Ref t) → Contains (field_edges number field values) (field_edge number f t)
edge_of_field number field [] f i t at is = absurd (cc)
edge_of_field number field (v ∷ values) f zero t at is =
    let e : field ≡ f = omega (arith, at) in
    let here : Contains (field_edges number field (Ref t ∷ values)) (field_edge number field t) = first (field_edge number field t) (field_edges number (field + 1) values) in
    subst (λ (m : ℕ). Contains (field_edges number field (v ∷ values)) (field_edge number m t)) e (subst (λ (w : Value). Contains (field_edges number field (w ∷ values)) (field_edge number field t)) (sym (same_Some v (Ref t) is)) here)
edge_of_field number field (v ∷ values) f (suc i) t at is =
    Contains-append_right (edges_of number field v) (field_edges number (field + 1) values) (field_edge number f t) (edge_of_field number (field + 1) values f i t (omega (arith, at)) is)

-- the object at this place holds the reference in this field, of those that are numbered from a number on
abbrev pub ReferredAt : ℕ → List PlainObject → ℕ → ℕ → ℕ → Type 0
ReferredAt number objects n f t =
    (i : ℕ) × (n ≡ number + i) × ((o : PlainObject) × (slice_get objects i ≡ Some o) × (slice_get o.fields f ≡ Some (Ref t)))

pub object_of_edge : (number : ℕ) (objects : List PlainObject) (n f t : ℕ) → Contains (object_lines number objects) (field_edge n f t) → ReferredAt number objects n f t
object_of_edge number [] n f t there = absurd (none_within (field_edge n f t) there)
object_of_edge number (x ∷ objects) n f t there =
    elim (first_or_later (object_node number x) (field_edges number 0 x.fields ++ object_lines (number + 1) objects) (field_edge n f t) there) [
      | inl same ↦ absurd (cc)
      | inr more ↦ elim (Contains-append_cases (field_edges number 0 x.fields) (object_lines (number + 1) objects) (field_edge n f t) more) [
        | inl edge ↦ let found = field_of_edge number 0 x.fields n f t edge in
            let same : f ≡ found.1.0 = omega (arith, found.1.1) in
            (0, omega (arith, found.0), (x, refl, subst (λ (i : ℕ). slice_get x.fields i ≡ Some (Ref t)) (sym same) found.1.2))
        | inr others ↦ let found = object_of_edge (number + 1) objects n f t others in (suc found.0, omega (arith, found.1), found.2)
      ]
    ]

pub edge_of_object : (number : ℕ) (objects : List PlainObject) (n i f t : ℕ) (o : PlainObject) → n ≡ number + i → slice_get objects i ≡ Some o → slice_get o.fields f ≡ Some (Ref t)
    → Contains (object_lines number objects) (field_edge n f t)
edge_of_object number [] n i f t o at is held = absurd (cc)
edge_of_object number (x ∷ objects) n zero f t o at is held =
    let e : number ≡ n = omega (arith, at) in
    let own : slice_get x.fields f ≡ Some (Ref t) = subst (λ (y : PlainObject). slice_get y.fields f ≡ Some (Ref t)) (sym (same_Some x o is)) held in
    let edge = edge_of_field number 0 x.fields f f t (omega arith) own in
    let rest = object_lines (number + 1) objects in
    subst (λ (m : ℕ). Contains (object_lines number (x ∷ objects)) (field_edge m f t)) e (later (object_node number x) (field_edges number 0 x.fields ++ rest) (field_edge number f t) (Contains-append_left (field_edges number 0 x.fields) rest (field_edge number f t) edge))
edge_of_object number (x ∷ objects) n (suc i) f t o at is held =
    let others = edge_of_object (number + 1) objects n i f t o (omega (arith, at)) is held in
    later (object_node number x) (field_edges number 0 x.fields ++ object_lines (number + 1) objects) (field_edge n f t) (Contains-append_right (field_edges number 0 x.fields) (object_lines (number + 1) objects) (field_edge n f t) others)
