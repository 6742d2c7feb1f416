-- Roots that are given to a plain heap are those that it holds, and no others.
use Rattle.std.specs.Prelude.{◌≡◌, ◌≢◌, ◌⊎◌, ◌<◌, ℕ, ◌*◌, IsTrue, List, [], ◌∷◌, length, Option, Some, None}
use Rattle.std.specs.List.{AllByRecursion}
use Rattle.std.proofs.Common.{refl, sym, ap, subst, ◌∙◌, arith, inl, inr}
use Rattle.std.proofs.lemmas.List.{length-set}
use Rattle.rh_layout.specs.declared.value.Value.{Value}
use Rattle.rh_layout.specs.declared.value.Value.TheVariants.{Nil}
use Rattle.rh_layout.specs.declared.command.RootId.{RootId}
use Rattle.rh_layout.specs.Root.{has_root, root_position}
use Rattle.rh_model.specs.Graph.{root_value}
use Rattle.rh_model.specs.Plain.{PlainHeap, with_root, graph_of}
use Rattle.rh_model.specs.lemmas.RootValue.{cases_root, root_value-with_root_value_same, root_value-with_root_value_other}
use Rattle.rh_dump.specs.Dump.{IsRootBefore, RootsRise}
use Rattle.rh_dump.specs.Numbering.{filled_roots, roots_of}
use Rattle.rh_dump.specs.PlainDump.{with_held}
use Rattle.rh_dump.proofs.numbers.Names.{Member}
use Rattle.rh_dump.proofs.numbers.RootLists.{entry_of_roots, roots_have_entry}
use Rattle.rh_dump.proofs.numbers.FlatDump.{rise_roots}

-- Roots that rise

before_after : (a b c : RootId) → IsRootBefore a b → IsRootBefore b c → IsRootBefore a c
before_after a b c (inl x) (inl y) = inl (omega (arith, x, y))
before_after a b c (inl x) (inr y) = inl (omega (arith, x, y.0))
before_after a b c (inr x) (inl y) = inl (omega (arith, x.0, y))
before_after a b c (inr x) (inr y) = inr (x.0 ∙ y.0, omega (arith, x.1, y.1))

not_before_itself : (a : RootId) → IsRootBefore a a → ⊥
not_before_itself a (inl x) = absurd (omega (arith, x))
not_before_itself a (inr x) = absurd (omega (arith, x.1))

-- each later entry is of a later root
later : (last : RootId) (xs : List (RootId × Value)) → RootsRise (Some last) xs → (x : RootId × Value) → Member x xs → IsRootBefore last x.0
later last [] rise x m = absurd m
later last (y ∷ ys) rise x (inl is) = subst (λ (e : RootId × Value). IsRootBefore last e.0) is rise.0
later last (y ∷ ys) rise x (inr m) = before_after last y.0 x.0 rise.0 (later y.0 ys rise.1 x m)

-- the entry at the head of one list that rises, where the other has the same entries
same_head : (last other : Option RootId) (x y : RootId × Value) (xs ys : List (RootId × Value)) → RootsRise last (x ∷ xs) → RootsRise other (y ∷ ys) → Member x (y ∷ ys) → Member y (x ∷ xs) → x ≡ y
same_head last other x y xs ys rise rises (inl is) back = sym is
same_head last other x y xs ys rise rises (inr m) (inl is) = is
same_head last other x y xs ys rise rises (inr m) (inr n) = absurd (not_before_itself x.0 (before_after x.0 y.0 x.0 (later x.0 xs rise.1 y n) (later y.0 ys rises.1 x m)))

-- what is in a list that rises, and isn't its head, is in the rest
in_rest : (last : Option RootId) (x y : RootId × Value) (xs ys : List (RootId × Value)) → RootsRise last (x ∷ xs) → x ≡ y → (z : RootId × Value) → Member z xs → Member z (y ∷ ys) → Member z ys
in_rest last x y xs ys rise same z m (inl is) =
    absurd (not_before_itself x.0 (subst (λ (e : RootId × Value). IsRootBefore x.0 e.0) (sym (same ∙ is)) (later x.0 xs rise.1 z m)))
in_rest last x y xs ys rise same z m (inr there) = there

-- so two that rise and have the same entries are one
rising_same : (last other : Option RootId) (xs ys : List (RootId × Value)) → RootsRise last xs → RootsRise other ys
    → ((x : RootId × Value) → Member x xs → Member x ys) → ((x : RootId × Value) → Member x ys → Member x xs) → xs ≡ ys
rising_same last other [] [] rise rises there back = refl
rising_same last other [] (y ∷ ys) rise rises there back = absurd (back y (inl refl))
rising_same last other (x ∷ xs) [] rise rises there back = absurd (there x (inl refl))
rising_same last other (x ∷ xs) (y ∷ ys) rise rises there back =
    let head : x ≡ y = same_head last other x y xs ys rise rises (there x (inl refl)) (back y (inl refl)) in
    let rest : xs ≡ ys =
    rising_same (Some x.0) (Some y.0) xs ys rise.1 rises.1
    (λ z m. in_rest last x y xs ys rise head z m (there z (inr m)))
    (λ z m. in_rest other y x ys xs rises (sym head) z m (back z (inr m))) in
    ap (λ l. x ∷ l) rest ∙ ap (λ z. z ∷ ys) head

-- a root has an entry, or none is of it
entry_cases : (r : RootId) (xs : List (RootId × Value)) → ((x : RootId × Value) × Member x xs × (x.0 ≡ r)) ⊎ ((x : RootId × Value) → Member x xs → r ≢ x.0)
entry_cases r [] = inr (λ x m. absurd m)
entry_cases r (x ∷ xs) = elim (cases_root r x.0) [
  | inl same ↦ inl (x, inl refl, sym same)
  | inr apart ↦ elim (entry_cases r xs) [
    | inl found ↦ inl (found.0, inr found.1, found.2)
    | inr none ↦ inr (λ y m. elim m [ inl is ↦ (λ same. apart (same ∙ ap (λ (e : RootId × Value). e.0) (sym is))) | inr rest ↦ none y rest ])
  ]
]

-- A plain heap that is given roots

-- a root of so many owners with so many slots
abbrev pub IsThere : ℕ → ℕ → RootId × Value → Type 0
IsThere owners slots x = IsTrue (has_root owners slots x.0)

pub owners-with_held : (p : PlainHeap) (xs : List (RootId × Value)) → (with_held p xs).owners ≡ p.owners
owners-with_held p [] = refl
owners-with_held p (x ∷ xs) = owners-with_held (with_root p x.0 x.1) xs

pub slots-with_held : (p : PlainHeap) (xs : List (RootId × Value)) → (with_held p xs).slots ≡ p.slots
slots-with_held p [] = refl
slots-with_held p (x ∷ xs) = slots-with_held (with_root p x.0 x.1) xs

pub objects-with_held : (p : PlainHeap) (xs : List (RootId × Value)) → (with_held p xs).objects ≡ p.objects
objects-with_held p [] = refl
objects-with_held p (x ∷ xs) = objects-with_held (with_root p x.0 x.1) xs

pub root_count-with_held : (p : PlainHeap) (xs : List (RootId × Value)) → length (with_held p xs).roots ≡ length p.roots
root_count-with_held p [] = refl
root_count-with_held p (x ∷ xs) = root_count-with_held (with_root p x.0 x.1) xs ∙ length-set p.roots (root_position p.slots x.0) x.1

-- a root without an entry holds what it held
given_other : (p : PlainHeap) (xs : List (RootId × Value)) → length p.roots ≡ p.owners * p.slots → AllByRecursion (IsThere p.owners p.slots) xs
    → (r : RootId) → ((x : RootId × Value) → Member x xs → r ≢ x.0) → root_value (graph_of (with_held p xs)) r ≡ root_value (graph_of p) r
given_other p [] count there r apart = refl
given_other p (x ∷ xs) count there r apart =
    given_other (with_root p x.0 x.1) xs (length-set p.roots (root_position p.slots x.0) x.1 ∙ count) there.1 r (λ y m. apart y (inr m))
    ∙ root_value-with_root_value_other (graph_of p) count x.0 x.1 there.0 r (apart x (inl refl))

-- and one with an entry what that says
given_same : (p : PlainHeap) (last : Option RootId) (xs : List (RootId × Value)) → length p.roots ≡ p.owners * p.slots → AllByRecursion (IsThere p.owners p.slots) xs → RootsRise last xs
    → (x : RootId × Value) → Member x xs → root_value (graph_of (with_held p xs)) x.0 ≡ x.1
given_same p last [] count there rise x m = absurd m
given_same p last (y ∷ ys) count there rise x (inl is) =
    let after : PlainHeap = with_root p y.0 y.1 in
    let counted : length after.roots ≡ after.owners * after.slots = length-set p.roots (root_position p.slots y.0) y.1 ∙ count in
    let apart : (z : RootId × Value) → Member z ys → y.0 ≢ z.0 =
    λ z m same. not_before_itself y.0 (subst (IsRootBefore y.0) (sym same) (later y.0 ys rise.1 z m)) in
    subst (λ (e : RootId × Value). root_value (graph_of (with_held after ys)) e.0 ≡ e.1) is
    (given_other after ys counted there.1 y.0 apart ∙ root_value-with_root_value_same (graph_of p) count y.0 y.1 there.0)
given_same p last (y ∷ ys) count there rise x (inr m) =
    given_same (with_root p y.0 y.1) (Some y.0) ys (length-set p.roots (root_position p.slots y.0) y.1 ∙ count) there.1 rise.1 x m

-- entries that are roots of so many owners with so many slots, rise, and aren't nil
pub record AreRoots (owners slots : ℕ) (xs : List (RootId × Value)) : Type 0 where
  pub there : AllByRecursion (IsThere owners slots) xs
  pub inside : (x : RootId × Value) → Member x xs → (x.0.owner < owners) × (x.0.slot < slots) × (x.1 ≢ Nil)
  pub rise : RootsRise None xs

module _ (p : PlainHeap) (xs : List (RootId × Value)) (count : length p.roots ≡ p.owners * p.slots) (empty : (r : RootId) → root_value (graph_of p) r ≡ Nil) (are : AreRoots p.owners p.slots xs) where
  -- what the roots hold then
  abbrev held : RootId → Value
  held = root_value (graph_of (with_held p xs))

  pair_same : (x y : RootId × Value) → x.0 ≡ y.0 → x.1 ≡ y.1 → x ≡ y
  pair_same x y first second = λ i. (first i, second i)

  held_given : (e : RootId × Value) → Member e (filled_roots held p.slots p.owners) → Member e xs
  held_given e m =
      let is = entry_of_roots held p.slots p.owners e m in
      elim (entry_cases e.0 xs) [
        | inl found ↦
            let says : held found.0.0 ≡ found.0.1 = given_same p None xs count are.there are.rise found.0 found.1 in
            subst (λ x. Member x xs) (pair_same found.0 e found.2 (sym says ∙ ap held found.2 ∙ sym is.0)) found.1
        | inr none ↦ absurd (is.1 (is.0 ∙ given_other p xs count are.there e.0 none ∙ empty e.0))
      ]

  given_held : (x : RootId × Value) → Member x xs → Member x (filled_roots held p.slots p.owners)
  given_held x m =
      let says : held x.0 ≡ x.1 = given_same p None xs count are.there are.rise x m in
      let inside = are.inside x m in
      subst (λ v. Member (x.0, v) (filled_roots held p.slots p.owners)) says
      (roots_have_entry held p.slots p.owners x.0.owner x.0.slot inside.0 inside.1 (λ nil. inside.2 (sym says ∙ nil)))

  -- A plain heap whose roots are nil, once it is given roots, holds these and no others.
  pub roots_of-with_held : roots_of (graph_of (with_held p xs)) ≡ xs
  roots_of-with_held =
      ap (λ n. filled_roots held n (with_held p xs).owners) (slots-with_held p xs)
      ∙ ap (filled_roots held p.slots) (owners-with_held p xs)
      ∙ rising_same None None (filled_roots held p.slots p.owners) xs (rise_roots held p.slots p.owners) are.rise held_given given_held
