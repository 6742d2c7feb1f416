-- A numbering on its way: what each call makes of it.
use Rattle.std.specs.Prelude.{◌≡◌, ◌<◌, ◌≤◌, ◌+◌, ◌-◌, ℕ, suc, IsSome, List, [], ◌∷◌, ◌++◌, map, take, length, slice_get, slice_index_or, Option, Some, None}
use Rattle.std.proofs.Common.{refl, sym, ap, subst, ◌∙◌, arith, inl, inr, append_assoc}
use Rattle.std.proofs.lemmas.List.{append-nil, map-append}
use Rattle.std.proofs.lemmas.Option.{none-some, slice_get-get_or, slice_get_within}
use Rattle.std.proofs.lemmas.Bool.{cases_lt}
use Rattle.rh_layout.specs.declared.value.Value.{Value}
use Rattle.rh_layout.specs.declared.value.Value.TheVariants.{Nil, Int, Ref}
use Rattle.rh_layout.specs.declared.command.RootId.{RootId}
use Rattle.rh_layout.specs.declared.shape.Shape.{Shape}
use Rattle.rh_layout.specs.Shape.{shape_of}
use Rattle.rh_model.specs.Graph.{Graph, root_value}
use Rattle.rh_dump.specs.Graph.{FlatGraph, graph_in, IsFilled}
use Rattle.rh_dump.specs.Numbering.{filled_root, filled_slots, filled_roots, roots_of, with_value, with_values, values_in, values_at, names_after, numbered_value, numbered_root, dump_below}
use Rattle.rh_dump.specs.Dumpable.{IsTellable, IsDumpable}
use Rattle.rh_dump.specs.Meeting.{met_values, met_roots, NumberingState, empty_numbering, shape_at, with_roots, with_shape, with_fields, numbering_after, IsBelow}
use Rattle.rh_dump.proofs.numbers.Names.{with_values-keeps}
use Rattle.rh_dump.proofs.numbers.RootLists.{root_named}
use Rattle.rh_dump.proofs.numbers.Numbered.{length-below, IsOnce-names_after, names_after-reached}
use Rattle.rh_dump.proofs.graphs.SameDumps.{roots_of-more}
use Rattle.rh_dump.proofs.numbers.FlatDump.{take-next, IsDumpable-reaches, IsFilled-after, IsGraph-flat_after, flat_after-below}
use Rattle.rh_dump.specs.Dump.{IsGraph}

-- a state of its parts
abbrev state_of : ℕ → List ℕ → List (RootId × Value) → List Shape → List Value → NumberingState
state_of limit names roots shapes values = record { limit = limit; names = names; flat = record { roots = roots; shapes = shapes; values = values } }

with_values-append : (names : List ℕ) (vs ws : List Value) → with_values (with_values names vs) ws ≡ with_values names (vs ++ ws)
with_values-append names [] ws = refl
with_values-append names (v ∷ vs) ws = with_values-append (with_value names v) vs ws

met_values-append : (names : List ℕ) (vs ws : List Value) → met_values names vs ++ met_values (with_values names vs) ws ≡ met_values names (vs ++ ws)
met_values-append names [] ws = refl
met_values-append names (v ∷ vs) ws = ap (λ l. numbered_value (with_value names v) v ∷ l) (met_values-append (with_value names v) vs ws)

-- what roots hold
abbrev held_by : List (RootId × Value) → List Value
held_by roots = map (λ (root : RootId × Value). root.1) roots

met_roots-append : (names : List ℕ) (xs ys : List (RootId × Value)) → met_roots names xs ++ met_roots (with_values names (held_by xs)) ys ≡ met_roots names (xs ++ ys)
met_roots-append names [] ys = refl
met_roots-append names (x ∷ xs) ys = ap (λ l. numbered_root (with_value names x.1) x ∷ l) (met_roots-append (with_value names x.1) xs ys)

-- no roots change nothing
pub with_roots-none : (s : NumberingState) → with_roots s [] ≡ s
with_roots-none s = ap (λ r. state_of s.limit s.names r s.flat.shapes s.flat.values) (append-nil s.flat.roots)

pub with_fields-none : (s : NumberingState) → with_fields s [] ≡ s
with_fields-none s = ap (λ v. state_of s.limit s.names s.flat.roots s.flat.shapes v) (append-nil s.flat.values)

-- some roots and then more
pub with_roots-append : (s : NumberingState) (xs ys : List (RootId × Value)) → with_roots (with_roots s xs) ys ≡ with_roots s (xs ++ ys)
with_roots-append s xs ys =
    ap (λ n. state_of s.limit n ((s.flat.roots ++ met_roots s.names xs) ++ met_roots (with_values s.names (held_by xs)) ys) s.flat.shapes s.flat.values)
    (with_values-append s.names (held_by xs) (held_by ys) ∙ ap (with_values s.names) (sym (map-append (λ (root : RootId × Value). root.1) xs ys)))
    ∙ ap (λ r. state_of s.limit (with_values s.names (held_by (xs ++ ys))) r s.flat.shapes s.flat.values)
    (append_assoc s.flat.roots (met_roots s.names xs) (met_roots (with_values s.names (held_by xs)) ys) ∙ ap (λ l. s.flat.roots ++ l) (met_roots-append s.names xs ys))

pub with_fields-append : (s : NumberingState) (vs ws : List Value) → with_fields (with_fields s vs) ws ≡ with_fields s (vs ++ ws)
with_fields-append s vs ws =
    ap (λ n. state_of s.limit n s.flat.roots s.flat.shapes ((s.flat.values ++ met_values s.names vs) ++ met_values (with_values s.names vs) ws)) (with_values-append s.names vs ws)
    ∙ ap (state_of s.limit (with_values s.names (vs ++ ws)) s.flat.roots s.flat.shapes)
    (append_assoc s.flat.values (met_values s.names vs) (met_values (with_values s.names vs) ws) ∙ ap (λ l. s.flat.values ++ l) (met_values-append s.names vs ws))

-- the next field
pub with_fields-next : (s : NumberingState) (vs : List Value) (f : ℕ) (v : Value) → f < length vs → v ≡ slice_index_or vs f Nil → with_fields (with_fields s (take f vs)) (v ∷ []) ≡ with_fields s (take (suc f) vs)
with_fields-next s vs f v within is =
    with_fields-append s (take f vs) (v ∷ [])
    ∙ ap (with_fields s) (sym (take-next f vs v (slice_get-get_or vs f Nil within ∙ ap Some (sym is))))

-- an object is looked at
pub numbering_after-next : (limit : ℕ) (g : Graph) (n a : ℕ) → slice_get (names_after g n) n ≡ Some a
    → with_fields (with_shape (numbering_after limit g n) (shape_of (length (values_in (g.fields a))) (g.raw a))) (values_in (g.fields a)) ≡ numbering_after limit g (suc n)
numbering_after-next limit g n a is =
    ap (λ o. with_fields (with_shape (numbering_after limit g n) (shape_at g o)) (values_at g o)) (sym is)

-- all roots, looked for among more owners and slots
pub roots_of-all : (g : Graph) (owners slots : ℕ) → g.owners ≤ owners → g.slots ≤ slots → filled_roots (root_value g) slots owners ≡ roots_of g
roots_of-all g owners slots of_owners of_slots =
    let all_slots : slots ≡ (slots - g.slots) + g.slots = omega (arith, of_slots) in
    let all_owners : owners ≡ (owners - g.owners) + g.owners = omega (arith, of_owners) in
    ap (λ s. filled_roots (root_value g) s owners) all_slots
    ∙ ap (filled_roots (root_value g) ((slots - g.slots) + g.slots)) all_owners
    ∙ roots_of-more g (slots - g.slots) (owners - g.owners)

-- what can be told refers below the limit
pub IsBelow-tellable : (limit : ℕ) (g : Graph) → IsDumpable limit g → (v : Value) → IsTellable g v → IsBelow limit v
IsBelow-tellable limit g d Nil told = tt
IsBelow-tellable limit g d (Int n) told = tt
IsBelow-tellable limit g d (Ref a) told = by (g.fields a) refl told
  where
    by : (o : Option (List Value)) → g.fields a ≡ o → IsSome o → a < limit
    by None is object = absurd (cc)
    by (Some fields) is object = d.names a fields is

pub IsBelow-root : (limit : ℕ) (g : Graph) → IsDumpable limit g → (r : RootId) (v : Value) → v ≡ root_value g r → IsBelow limit v
IsBelow-root limit g d r v is = subst (IsBelow limit) (sym is) (IsBelow-tellable limit g d (root_value g r) (d.roots r))

pub IsBelow-field : (limit : ℕ) (g : Graph) → IsDumpable limit g → (a f : ℕ) (v : Value) → f < length (values_in (g.fields a)) → v ≡ slice_index_or (values_in (g.fields a)) f Nil → IsBelow limit v
IsBelow-field limit g d a f v within is = by (g.fields a) refl within is
  where
    by : (o : Option (List Value)) → g.fields a ≡ o → f < length (values_in o) → v ≡ slice_index_or (values_in o) f Nil → IsBelow limit v
    by None none inside at = absurd (omega (arith, inside))
    by (Some fields) there inside at =
        subst (IsBelow limit) (sym at) (IsBelow-tellable limit g d (slice_index_or fields f Nil) (d.fields a f fields (slice_index_or fields f Nil) there (slice_get-get_or fields f Nil inside)))

-- In the loops

pub slots-next : (held : RootId → Value) (s t u : NumberingState) (owner slot : ℕ) (v : Value)
    → t ≡ with_roots s (filled_slots held owner slot) → u ≡ with_roots t (filled_root (root_named owner slot) v) → v ≡ held (root_named owner slot)
    → u ≡ with_roots s (filled_slots held owner (slot + 1))
slots-next held s t u owner slot v before put is =
    let next : suc slot ≡ slot + 1 = omega arith in
    put
    ∙ ap (λ x. with_roots x (filled_root (root_named owner slot) v)) before
    ∙ with_roots-append s (filled_slots held owner slot) (filled_root (root_named owner slot) v)
    ∙ ap (λ w. with_roots s (filled_slots held owner slot ++ filled_root (root_named owner slot) w)) is
    ∙ ap (λ n. with_roots s (filled_slots held owner n)) next

pub owners-next : (held : RootId → Value) (s t u : NumberingState) (slots owner : ℕ)
    → t ≡ with_roots s (filled_roots held slots owner) → u ≡ with_roots t (filled_slots held owner slots)
    → u ≡ with_roots s (filled_roots held slots (owner + 1))
owners-next held s t u slots owner before put =
    let next : suc owner ≡ owner + 1 = omega arith in
    put
    ∙ ap (λ x. with_roots x (filled_slots held owner slots)) before
    ∙ with_roots-append s (filled_roots held slots owner) (filled_slots held owner slots)
    ∙ ap (λ n. with_roots s (filled_roots held slots n)) next

pub fields-next : (s t u : NumberingState) (vs : List Value) (f : ℕ) (v : Value) → f < length vs
    → t ≡ with_fields s (take f vs) → u ≡ with_fields t (v ∷ []) → v ≡ slice_index_or vs f Nil
    → u ≡ with_fields s (take (f + 1) vs)
fields-next s t u vs f v within before put is =
    let next : suc f ≡ f + 1 = omega arith in
    put
    ∙ ap (λ x. with_fields x (v ∷ [])) before
    ∙ with_fields-next s vs f v within is
    ∙ ap (λ n. with_fields s (take n vs)) next

pub objects-next : (limit : ℕ) (g : Graph) (t u : NumberingState) (n a : ℕ) → t ≡ numbering_after limit g n → Some a ≡ slice_get t.names n
    → u ≡ with_fields (with_shape t (shape_of (length (values_in (g.fields a))) (g.raw a))) (values_in (g.fields a))
    → u ≡ numbering_after limit g (n + 1)
objects-next limit g t u n a before is put =
    let next : suc n ≡ n + 1 = omega arith in
    put
    ∙ ap (λ x. with_fields (with_shape x (shape_of (length (values_in (g.fields a))) (g.raw a))) (values_in (g.fields a))) before
    ∙ numbering_after-next limit g n a (sym (is ∙ ap (λ (x : NumberingState). slice_get x.names n) before))
    ∙ ap (numbering_after limit g) next

module _ (limit : ℕ) (g : Graph) (d : IsDumpable limit g) where
  -- names are never more than the limit
  pub names_after-below : (n : ℕ) → length (names_after g n) ≤ limit
  names_after-below n = length-below (names_after g n) limit (IsOnce-names_after g n) (λ k a is. (IsDumpable-reaches g limit d a (names_after-reached g n k a is)).1)

-- and an object that is looked at is one of them afterwards
pub names_after-longer : (g : Graph) (n a : ℕ) → slice_get (names_after g n) n ≡ Some a → n + 1 ≤ length (names_after g (n + 1))
names_after-longer g n a is =
    let next : suc n ≡ n + 1 = omega arith in
    let there : slice_get (names_after g (suc n)) n ≡ Some a = with_values-keeps (names_after g n) (values_at g (slice_get (names_after g n) n)) n a is in
    let within : n < length (names_after g (suc n)) = slice_get_within (names_after g (suc n)) n a there in
    omega (arith, within, ap (λ m. length (names_after g m)) next)

-- where no further name is, all were looked at
pub last_number : (names : List ℕ) (n : ℕ) → n ≤ length names → slice_get names n ≡ None → length names ≡ n
last_number names n within none = elim (cases_lt n (length names)) [
  | inl more ↦ absurd (none-some (slice_index_or names n 0) (sym none ∙ slice_get-get_or names n 0 more))
  | inr past ↦ omega (arith, within, past)
]

-- In the whole call

-- the state before the objects is that after the roots
pub rooted : (limit : ℕ) (g : Graph) (n : ℕ) (s t : NumberingState) → n ≡ limit → s ≡ empty_numbering n → t ≡ with_roots s (roots_of g) → t ≡ numbering_after limit g 0
rooted limit g n s t is empty put =
    put ∙ ap (λ x. with_roots x (roots_of g)) (empty ∙ ap empty_numbering is)

-- what the last state stores is a graph, and the dump
pub record IsDumpOf (limit : ℕ) (g : Graph) (flat : FlatGraph) : Type 0 where
  pub filled : IsFilled flat
  pub graph : IsGraph (graph_in flat)
  pub dump : graph_in flat ≡ dump_below limit g

-- all names were looked at
abbrev pub IsLast : ℕ → Graph → NumberingState → Type 0
IsLast limit g u = (n : ℕ) × (n ≤ limit) × (length (names_after g n) ≡ n) × (u ≡ numbering_after limit g n)

pub IsDumpOf-last : (limit : ℕ) (g : Graph) (t u : NumberingState) → IsDumpable limit g → t.limit ≡ limit → IsLast t.limit g u → IsDumpOf limit g u.flat
IsDumpOf-last limit g t u d same last =
    subst (λ (s : NumberingState). IsDumpOf limit g s.flat) (sym last.3)
    (record {
      filled = IsFilled-after g last.0;
      graph = IsGraph-flat_after g limit d last.0 last.2 (omega (arith, last.1, same));
      dump = flat_after-below g limit d last.0 last.2 (omega (arith, last.1, same));
    })
