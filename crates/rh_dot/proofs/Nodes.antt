-- What stands among the lines: nodes of the roots, then those of the objects.
use Rattle.std.proofs.Common.{◌≡◌, ℕ, zero, suc, ◌+◌, ◌<◌, List, [], ◌∷◌, ◌++◌, length, Some, refl, ap, subst, inl, inr, arith}
use Rattle.std.specs.Prelude.{◌⊎◌, ⊤, All, Contains, slice_get, slice_index_or}
use Rattle.std.specs.List.{flat_map}
use Rattle.std.proofs.lemmas.List.Elements.{All-nil, All-cons, All-append, All-contains, Contains-append_left, Contains-append_right, Contains-append_cases}
use Rattle.std.proofs.lemmas.Option.{same_Some}
use Rattle.rh_layout.specs.declared.value.Value.{Value}
use Rattle.rh_layout.specs.declared.value.Value.TheVariants.{Nil, Int, Ref}
use Rattle.rh_layout.specs.declared.command.RootId.{RootId}
use Rattle.rh_model.specs.Plain.{PlainObject}
use Rattle.rh_dump.specs.Dump.{GraphState}
use Rattle.rh_dot.specs.Dot.{DotLine, open_line, root_node, root_edge, object_node, field_edge, close_line, root_edges, edges_of, root_lines, field_edges, object_lines, dot_lines}

-- ---- an item of a list is the first or a later one

module _ {X : Type 0} where
  at_index : (x : X) (xs : List X) (y : X) (k : ℕ) → k < length (x ∷ xs) → slice_index_or (x ∷ xs) k y ≡ y → (x ≡ y) ⊎ Contains xs y
  at_index x xs y zero within is = inl is
  at_index x xs y (suc k) within is = inr (k, omega (arith, within), is)

  pub first_or_later : (x : X) (xs : List X) (y : X) → Contains (x ∷ xs) y → (x ≡ y) ⊎ Contains xs y
  first_or_later x xs y there = at_index x xs y there.0 there.1 there.2

  pub none_within : (y : X) → Contains {X = X} [] y → ⊥
  none_within y there = absurd (omega (arith, there.1))

  pub first : (x : X) (xs : List X) → Contains (x ∷ xs) x
  first x xs = (0, omega arith, refl)

  pub later : (x : X) (xs : List X) (y : X) → Contains xs y → Contains (x ∷ xs) y
  later x xs y there = Contains-append_right (x ∷ []) xs y there

-- ---- which lines are of roots, and which of objects

abbrev pub IsOfRoot : DotLine → Type 0
IsOfRoot (root_node root value) = ⊤
IsOfRoot (root_edge root to) = ⊤
IsOfRoot line = ⊥

abbrev pub IsOfObject : DotLine → Type 0
IsOfObject (object_node number object) = ⊤
IsOfObject (field_edge number field to) = ⊤
IsOfObject line = ⊥

root_edges-of_root : (root : RootId) (value : Value) → All IsOfRoot (root_edges root value)
root_edges-of_root root Nil = All-nil IsOfRoot
root_edges-of_root root (Int n) = All-nil IsOfRoot
root_edges-of_root root (Ref to) = All-cons IsOfRoot (root_edge root to) [] tt (All-nil IsOfRoot)

pub roots-of_root : (roots : List (RootId × Value)) → All IsOfRoot (flat_map root_lines roots)
roots-of_root [] = All-nil IsOfRoot
roots-of_root (r ∷ roots) =
    let own = All-cons IsOfRoot (root_node r.0 r.1) (root_edges r.0 r.1) tt (root_edges-of_root r.0 r.1) in
    All-append IsOfRoot (root_lines r) (flat_map root_lines roots) own (roots-of_root roots)

edges-of_object : (number field : ℕ) (value : Value) → All IsOfObject (edges_of number field value)
edges-of_object number field Nil = All-nil IsOfObject
edges-of_object number field (Int n) = All-nil IsOfObject
edges-of_object number field (Ref to) = All-cons IsOfObject (field_edge number field to) [] tt (All-nil IsOfObject)

fields-of_object : (number field : ℕ) (values : List Value) → All IsOfObject (field_edges number field values)
fields-of_object number field [] = All-nil IsOfObject
fields-of_object number field (value ∷ values) =
    All-append IsOfObject (edges_of number field value) (field_edges number (field + 1) values) (edges-of_object number field value) (fields-of_object number (field + 1) values)

pub objects-of_object : (number : ℕ) (objects : List PlainObject) → All IsOfObject (object_lines number objects)
objects-of_object number [] = All-nil IsOfObject
objects-of_object number (object ∷ others) =
    let own = All-append IsOfObject (field_edges number 0 object.fields) (object_lines (number + 1) others) (fields-of_object number 0 object.fields) (objects-of_object (number + 1) others) in
    All-cons IsOfObject (object_node number object) (field_edges number 0 object.fields ++ object_lines (number + 1) others) tt own

-- a line of a root or of an object among the lines of a graph is one of theirs
module _ (g : GraphState) (line : DotLine) (there : Contains (dot_lines g) line) where
  after_open : ¬ (open_line ≡ line) → Contains (flat_map root_lines g.roots) line ⊎ Contains (object_lines 0 g.objects ++ close_line ∷ []) line
  after_open other =
      elim (first_or_later open_line (flat_map root_lines g.roots ++ (object_lines 0 g.objects ++ close_line ∷ [])) line there) [
        | inl same ↦ absurd (other same)
        | inr more ↦ Contains-append_cases (flat_map root_lines g.roots) (object_lines 0 g.objects ++ close_line ∷ []) line more
      ]

  before_close : ¬ (close_line ≡ line) → Contains (object_lines 0 g.objects ++ close_line ∷ []) line → Contains (object_lines 0 g.objects) line
  before_close other more =
      elim (Contains-append_cases (object_lines 0 g.objects) (close_line ∷ []) line more) [
        | inl found ↦ found
        | inr last ↦ elim (first_or_later close_line [] line last) [ inl same ↦ absurd (other same) | inr none ↦ absurd (none_within line none) ]
      ]

  pub among_roots : ¬ (open_line ≡ line) → ¬ (close_line ≡ line) → ¬ (IsOfObject line) → Contains (flat_map root_lines g.roots) line
  among_roots open_other close_other not_object =
      elim (after_open open_other) [
        | inl found ↦ found
        | inr more ↦ absurd (not_object (All-contains IsOfObject (object_lines 0 g.objects) line (objects-of_object 0 g.objects) (before_close close_other more)))
      ]

  pub among_objects : ¬ (open_line ≡ line) → ¬ (close_line ≡ line) → ¬ (IsOfRoot line) → Contains (object_lines 0 g.objects) line
  among_objects open_other close_other not_root =
      elim (after_open open_other) [
        | inl found ↦ absurd (not_root (All-contains IsOfRoot (flat_map root_lines g.roots) line (roots-of_root g.roots) found))
        | inr more ↦ before_close close_other more
      ]

pub root_there : (g : GraphState) (line : DotLine) → Contains (flat_map root_lines g.roots) line → Contains (dot_lines g) line
root_there g line there =
    let rest = object_lines 0 g.objects ++ close_line ∷ [] in
    later open_line (flat_map root_lines g.roots ++ rest) line (Contains-append_left (flat_map root_lines g.roots) rest line there)

pub object_there : (g : GraphState) (line : DotLine) → Contains (object_lines 0 g.objects) line → Contains (dot_lines g) line
object_there g line there =
    let rest = object_lines 0 g.objects ++ close_line ∷ [] in
    later open_line (flat_map root_lines g.roots ++ rest) line (Contains-append_right (flat_map root_lines g.roots) rest line (Contains-append_left (object_lines 0 g.objects) (close_line ∷ []) line there))

-- ---- nodes of roots

edges_no_node : (root : RootId) (v : Value) (r : RootId) (w : Value) → Contains (root_edges root v) (root_node r w) → ⊥
edges_no_node root Nil r w there = none_within (root_node r w) there
edges_no_node root (Int n) r w there = none_within (root_node r w) there
edges_no_node root (Ref to) r w there =
    elim (first_or_later (root_edge root to) [] (root_node r w) there) [ inl same ↦ absurd (cc) | inr none ↦ absurd (none_within (root_node r w) none) ]

same_root_node : (root r : RootId) (v w : Value) → root_node root v ≡ root_node r w → ◌≡◌ {A = RootId × Value} (root, v) (r, w)
same_root_node root r v w e = cc

pub root_of_node : (roots : List (RootId × Value)) (r : RootId) (w : Value) → Contains (flat_map root_lines roots) (root_node r w) → Contains roots (r, w)
root_of_node [] r w there = absurd (none_within (root_node r w) there)
root_of_node (x ∷ roots) r w there =
    elim (Contains-append_cases (root_lines x) (flat_map root_lines roots) (root_node r w) there) [
      | inl own ↦ elim (first_or_later (root_node x.0 x.1) (root_edges x.0 x.1) (root_node r w) own) [
        | inl same ↦ subst (Contains (x ∷ roots)) (same_root_node x.0 r x.1 w same) (first x roots)
        | inr edge ↦ absurd (edges_no_node x.0 x.1 r w edge)
      ]
      | inr more ↦ later x roots (r, w) (root_of_node roots r w more)
    ]

pub node_of_root : (roots : List (RootId × Value)) (r : RootId) (w : Value) → Contains roots (r, w) → Contains (flat_map root_lines roots) (root_node r w)
node_of_root [] r w there = absurd (none_within (r, w) there)
node_of_root (x ∷ roots) r w there =
    elim (first_or_later x roots (r, w) there) [
      | inl same ↦ Contains-append_left (root_lines x) (flat_map root_lines roots) (root_node r w) (subst (λ (y : RootId × Value). Contains (root_lines x) (root_node y.0 y.1)) same (first (root_node x.0 x.1) (root_edges x.0 x.1)))
      | inr more ↦ Contains-append_right (root_lines x) (flat_map root_lines roots) (root_node r w) (node_of_root roots r w more)
    ]

-- ---- nodes of objects

edges_no_object : (number field : ℕ) (v : Value) (n : ℕ) (o : PlainObject) → Contains (edges_of number field v) (object_node n o) → ⊥
edges_no_object number field Nil n o there = none_within (object_node n o) there
edges_no_object number field (Int k) n o there = none_within (object_node n o) there
edges_no_object number field (Ref to) n o there =
    elim (first_or_later (field_edge number field to) [] (object_node n o) there) [ inl same ↦ absurd (cc) | inr none ↦ absurd (none_within (object_node n o) none) ]

fields_no_node : (number field : ℕ) (values : List Value) (n : ℕ) (o : PlainObject) → Contains (field_edges number field values) (object_node n o) → ⊥
fields_no_node number field [] n o there = none_within (object_node n o) there
fields_no_node number field (v ∷ values) n o there =
    elim (Contains-append_cases (edges_of number field v) (field_edges number (field + 1) values) (object_node n o) there) [
      | inl own ↦ absurd (edges_no_object number field v n o own)
      | inr more ↦ absurd (fields_no_node number (field + 1) values n o more)
    ]

-- the object at this place, of those that are numbered from a number on
abbrev pub ObjectAt : ℕ → List PlainObject → ℕ → PlainObject → Type 0
ObjectAt number objects n o = (i : ℕ) × (n ≡ number + i) × (slice_get objects i ≡ Some o)

pub object_of_node : (number : ℕ) (objects : List PlainObject) (n : ℕ) (o : PlainObject) → Contains (object_lines number objects) (object_node n o) → ObjectAt number objects n o
object_of_node number [] n o there = absurd (none_within (object_node n o) there)
object_of_node number (x ∷ objects) n o there =
    elim (first_or_later (object_node number x) (field_edges number 0 x.fields ++ object_lines (number + 1) objects) (object_node n o) there) [
      | inl same ↦ let e : number ≡ n = cc in let f : x ≡ o = cc in (0, omega (arith, e), ap (λ (y : PlainObject). Some y) f)
      | inr more ↦ elim (Contains-append_cases (field_edges number 0 x.fields) (object_lines (number + 1) objects) (object_node n o) more) [
        | inl edge ↦ absurd (fields_no_node number 0 x.fields n o edge)
        | inr others ↦ let found = object_of_node (number + 1) objects n o others in (suc found.0, omega (arith, found.1), found.2)
      ]
    ]

pub node_of_object : (number : ℕ) (objects : List PlainObject) (n i : ℕ) (o : PlainObject) → n ≡ number + i → slice_get objects i ≡ Some o → Contains (object_lines number objects) (object_node n o)
node_of_object number [] n i o at is = absurd (cc)
node_of_object number (x ∷ objects) n zero o at is =
    let e : number ≡ n = omega (arith, at) in
    let rest = field_edges number 0 x.fields ++ object_lines (number + 1) objects in
    subst (λ (m : ℕ). Contains (object_node number x ∷ rest) (object_node m o)) e (subst (λ (y : PlainObject). Contains (object_node number x ∷ rest) (object_node number y)) (same_Some x o is) (first (object_node number x) rest))
node_of_object number (x ∷ objects) n (suc i) o at is =
    let others = node_of_object (number + 1) objects n i o (omega (arith, at)) is in
    later (object_node number x) (field_edges number 0 x.fields ++ object_lines (number + 1) objects) (object_node n o) (Contains-append_right (field_edges number 0 x.fields) (object_lines (number + 1) objects) (object_node n o) others)
