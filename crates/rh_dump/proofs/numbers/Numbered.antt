-- The objects that have numbers are those that are reached, each once, and finitely many looks find them all.
use Rattle.std.specs.Prelude.{◌≡◌, ◌≢◌, ◌<◌, ◌≤◌, ◌+◌, ℕ, zero, suc, IsTrue, Bool, true, false, ◌||◌, ◌↔◌, List, [], ◌∷◌, map, length, slice_get, Option, Some, None}
use Rattle.std.specs.List.{IsDistinct, list_any}
use Rattle.std.proofs.Common.{refl, sym, ap, subst, ◌∙◌, arith, inl, inr}
use Rattle.std.proofs.Math.Dec.{eqb}
use Rattle.std.proofs.lemmas.Option.{none-some, same_Some, slice_get_within, slice_get_past, slice_get-get_or}
use Rattle.std.proofs.lemmas.Bool.{cases_eq, ne_eqb}
use Rattle.std.proofs.lemmas.Map.Keys.{IsDistinct-from_apart}
use Rattle.std.proofs.Math.ListN.{get_or}
use Rattle.std.proofs.lemmas.Map.Steps.{length-le_from_distinct_below}
use Rattle.rh_layout.specs.declared.value.Value.{Value}
use Rattle.rh_layout.specs.declared.value.Value.TheVariants.{Nil, Ref}
use Rattle.rh_layout.specs.declared.command.RootId.{RootId}
use Rattle.rh_layout.specs.Root.{has_root}
use Rattle.rh_model.specs.Graph.{Graph, root_value}
use Rattle.rh_model.specs.Reach.{Reached, from_root, from_field}
use Rattle.rh_layout.specs.lemmas.Root.{has_root-slot, has_root-owner}
use Rattle.rh_model.specs.lemmas.RootValue.{root_value-missing}
use Rattle.rh_dump.specs.Numbering.{roots_of, with_values, values_in, values_at, number_in, names_after, ReachesObjectsBelow}
use Rattle.rh_dump.proofs.numbers.Names.{by_names, Member, Member-at, place_of_Member, IsOnce, HasName, HasName-at, with_values-keeps, with_values-has, with_values-back, IsOnce-with_values}
use Rattle.rh_dump.proofs.numbers.RootLists.{entry_of_roots, roots_have_entry}

-- what an element is changed to stands in the changed list
pub Member-map : {X Y : Type 0} (f : X → Y) (x : X) (xs : List X) → Member x xs → Member (f x) (map f xs)
Member-map f x [] m = absurd m
Member-map f x (y ∷ ys) (inl is) = inl (ap f is)
Member-map f x (y ∷ ys) (inr m) = inr (Member-map f x ys m)

-- and what stands there is what some element is changed to
pub Member-map_back : {X Y : Type 0} (f : X → Y) (y : Y) (xs : List X) → Member y (map f xs) → (x : X) × Member x xs × (f x ≡ y)
Member-map_back f y [] m = absurd m
Member-map_back f y (x ∷ xs) (inl is) = (x, inl refl, is)
Member-map_back f y (x ∷ xs) (inr m) = let at = Member-map_back f y xs m in (at.0, inr at.1, at.2)

-- what the test finds stands in the list
Member-listed : (q : ℕ) (xs : List ℕ) → list_any (eqb q) xs ≡ true → Member q xs
Member-listed q [] found = absurd (cc)
Member-listed q (x ∷ xs) found =
    by_names q x (λ t. (t || list_any (eqb q) xs) ≡ true → Member q (x ∷ xs)) (λ same any. inl (sym same)) (λ other any. inr (Member-listed q xs any)) found

-- names that each stand once are distinct
IsDistinct-from_once : (xs : List ℕ) → IsOnce xs → IsDistinct eqb xs
IsDistinct-from_once xs once =
    IsDistinct-from_apart eqb xs (λ i j d before within.
    ne_eqb (get_or xs i d) (get_or xs j d) (λ same.
    let one : i ≡ j = once i j (get_or xs j d) (slice_get-get_or xs i d (omega (arith, before, within)) ∙ ap Some same) (slice_get-get_or xs j d within) in
    omega (arith, one, before)))

-- so names below a limit that each stand once are no more than the limit
pub length-below : (names : List ℕ) (limit : ℕ) → IsOnce names → ((k a : ℕ) → slice_get names k ≡ Some a → a < limit) → length names ≤ limit
length-below names limit once below =
    length-le_from_distinct_below names limit (IsDistinct-from_once names once)
    (λ q found. let at = place_of_Member q names (Member-listed q names found) in below at.0 q at.1)

-- what the roots that aren't nil hold
abbrev pub held_values : Graph → List Value
held_values g = map (λ (root : RootId × Value). root.1) (roots_of g)

module _ (g : Graph) where
  -- a root that isn't nil is there
  root_there : (r : RootId) → root_value g r ≢ Nil → IsTrue (has_root g.owners g.slots r)
  root_there r filled = by (has_root g.owners g.slots r) refl
    where
      by : (t : Bool) → has_root g.owners g.slots r ≡ t → IsTrue (has_root g.owners g.slots r)
      by true here = here
      by false missing = absurd (filled (root_value-missing g r missing))

  -- and has its entry
  pub Member-roots_of : (r : RootId) → root_value g r ≢ Nil → Member (r, root_value g r) (roots_of g)
  Member-roots_of r filled =
      let here = root_there r filled in
      roots_have_entry (root_value g) g.slots g.owners r.owner r.slot (has_root-owner g.owners g.slots r here) (has_root-slot g.owners g.slots r here) filled

  -- a root refers to what the first values refer to, and they to what a root refers to
  held_reference : (a : ℕ) → Member (Ref a) (held_values g) → (r : RootId) × (root_value g r ≡ Ref a)
  held_reference a m =
      let entry = Member-map_back (λ (root : RootId × Value). root.1) (Ref a) (roots_of g) m in
      (entry.0.0, sym (entry_of_roots (root_value g) g.slots g.owners entry.0 entry.1).0 ∙ entry.2)

  reference_held : (r : RootId) (a : ℕ) → root_value g r ≡ Ref a → Member (Ref a) (held_values g)
  reference_held r a is =
      subst (λ v. Member v (held_values g)) is
      (Member-map (λ (root : RootId × Value). root.1) (r, root_value g r) (roots_of g) (Member-roots_of r (λ nil. let other : Nil ≡ Ref a = sym nil ∙ is in cc)))

  -- what the fields of a reached object refer to is reached
  values_at-reached : (o : Option ℕ) (k b : ℕ) → ((a : ℕ) → o ≡ Some a → Reached g a) → Member (Ref b) (values_at g o) → Reached g b
  values_at-reached None k b reached m = absurd m
  values_at-reached (Some a) k b reached m = by (g.fields a) refl m
    where
      by : (fields : Option (List Value)) → g.fields a ≡ fields → Member (Ref b) (values_in fields) → Reached g b
      by None is member = absurd member
      by (Some fields) is member = let at = place_of_Member (Ref b) fields member in from_field a fields at.0 b (reached a refl) is at.1

  -- what has a number is reached
  pub names_after-reached : (n k a : ℕ) → slice_get (names_after g n) k ≡ Some a → Reached g a
  names_after-reached zero k a is = elim (with_values-back [] (held_values g) k a is) [
    | inl none ↦ absurd (none-some a none)
    | inr m ↦ let r = held_reference a m in from_root r.0 a r.1
  ]
  names_after-reached (suc n) k a is = elim (with_values-back (names_after g n) (values_at g (slice_get (names_after g n) n)) k a is) [
    | inl before ↦ names_after-reached n k a before
    | inr m ↦ values_at-reached (slice_get (names_after g n) n) k a (λ b there. names_after-reached n n b there) m
  ]

  -- and has one number
  pub IsOnce-names_after : (n : ℕ) → IsOnce (names_after g n)
  IsOnce-names_after zero = IsOnce-with_values [] (held_values g) (λ i j a first second. absurd (none-some a first))
  IsOnce-names_after (suc n) = IsOnce-with_values (names_after g n) (values_at g (slice_get (names_after g n) n)) (IsOnce-names_after n)

  -- what the fields refer to of the objects that were looked at has a number
  abbrev LooksAt : ℕ → List ℕ → Type 0
  LooksAt n names = (k a b : ℕ) → k < n → slice_get names k ≡ Some a → Member (Ref b) (values_in (g.fields a)) → HasName names b

  LooksAt-next : (n : ℕ) → LooksAt n (names_after g n) → LooksAt (suc n) (names_after g (suc n))
  LooksAt-next n looked k a b below is m = by (slice_get (names_after g n) n) refl
    where
      keeps : (c i : ℕ) → slice_get (names_after g n) i ≡ Some c → slice_get (names_after g (suc n)) i ≡ Some c
      keeps c i = with_values-keeps (names_after g n) (values_at g (slice_get (names_after g n) n)) i c

      earlier : k < n → slice_get (names_after g n) k ≡ Some a → HasName (names_after g (suc n)) b
      earlier lower there =
          HasName-at (names_after g (suc n)) b (number_in (names_after g n) b)
          (keeps b (number_in (names_after g n) b) (looked k a b lower there m))

      by : (o : Option ℕ) → slice_get (names_after g n) n ≡ o → HasName (names_after g (suc n)) b
      by None none =
          let same : names_after g (suc n) ≡ names_after g n = ap (λ at. with_values (names_after g n) (values_at g at)) none in
          let there : slice_get (names_after g n) k ≡ Some a = sym (ap (λ l. slice_get l k) same) ∙ is in
          elim (cases_eq k n) [
            | inl last ↦ absurd (none-some a (sym none ∙ ap (slice_get (names_after g n)) (sym last) ∙ there))
            | inr other ↦ earlier (omega (arith, below, other)) there
          ]
      by (Some c) found = elim (cases_eq k n) [
        | inl last ↦
            let it : c ≡ a = same_Some c a (sym (keeps c n found) ∙ ap (slice_get (names_after g (suc n))) (sym last) ∙ is) in
            with_values-has (names_after g n) (values_at g (slice_get (names_after g n) n)) b
            (subst (λ o. Member (Ref b) (values_at g o)) (sym found) (subst (λ d. Member (Ref b) (values_in (g.fields d))) (sym it) m))
        | inr other ↦
            let within : n < length (names_after g n) = slice_get_within (names_after g n) n c found in
            let lower : k < n = omega (arith, below, other) in
            let at : slice_get (names_after g n) k ≡ Some (get_or (names_after g n) k 0) = slice_get-get_or (names_after g n) k 0 (omega (arith, lower, within)) in
            earlier lower (at ∙ sym (keeps (get_or (names_after g n) k 0) k at) ∙ is)
      ]

  LooksAt-names_after : (n : ℕ) → LooksAt n (names_after g n)
  LooksAt-names_after zero k a b = λ below is m. absurd (omega (arith, below))
  LooksAt-names_after (suc n) k a b = LooksAt-next n (LooksAt-names_after n) k a b

  -- the roots' names keep their numbers
  names_after-roots : (n k a : ℕ) → slice_get (names_after g 0) k ≡ Some a → slice_get (names_after g n) k ≡ Some a
  names_after-roots zero k a is = is
  names_after-roots (suc n) k a is = with_values-keeps (names_after g n) (values_at g (slice_get (names_after g n) n)) k a (names_after-roots n k a is)

  -- once as many objects were looked at as have numbers, further looks find nothing
  pub names_after-more : (n more : ℕ) → length (names_after g n) ≤ n → names_after g (more + n) ≡ names_after g n
  names_after-more n zero done = let none : (0 + n) ≡ n = omega arith in ap (names_after g) none
  names_after-more n (suc more) done =
      let next : (suc more + n) ≡ suc (more + n) = omega arith in
      let same : names_after g (more + n) ≡ names_after g n = names_after-more n more done in
      ap (names_after g) next
      ∙ ap (λ l. with_values l (values_at g (slice_get l (more + n)))) same
      ∙ ap (λ o. with_values (names_after g n) (values_at g o)) (slice_get_past (names_after g n) (more + n) (omega (arith, done)))

  module _ (limit : ℕ) (few : (a : ℕ) → Reached g a → a < limit) where
    -- so many are enough
    pub names_after-few : length (names_after g limit) ≤ limit
    names_after-few = length-below (names_after g limit) limit (IsOnce-names_after limit) (λ k a is. few a (names_after-reached limit k a is))

    pub names_after-enough : (more : ℕ) → names_after g (more + limit) ≡ names_after g limit
    names_after-enough more = names_after-more limit more names_after-few

    -- what the fields refer to of what has a number has a number
    pub names_after-closed : (k a b : ℕ) → slice_get (names_after g limit) k ≡ Some a → Member (Ref b) (values_in (g.fields a)) → HasName (names_after g limit) b
    names_after-closed k a b is m =
        let within : k < length (names_after g limit) = slice_get_within (names_after g limit) k a is in
        LooksAt-names_after limit k a b (omega (arith, within, names_after-few)) is m

    -- and what a root refers to
    pub names_after-held : (r : RootId) (a : ℕ) → root_value g r ≡ Ref a → HasName (names_after g limit) a
    names_after-held r a is =
        let first : HasName (names_after g 0) a = with_values-has [] (held_values g) a (reference_held r a is) in
        HasName-at (names_after g limit) a (number_in (names_after g 0) a) (names_after-roots limit (number_in (names_after g 0) a) a first)

    -- so all that is reached
    pub Reached-numbered : (a : ℕ) → Reached g a → HasName (names_after g limit) a
    Reached-numbered _ (from_root r a is) = names_after-held r a is
    Reached-numbered _ (from_field a fields f b reached is found) =
        names_after-closed (number_in (names_after g limit) a) a b (Reached-numbered a reached)
        (subst (λ o. Member (Ref b) (values_in o)) (sym is) (Member-at (Ref b) fields f found))

-- What is reached has a number, and what has a number is reached.
pub Reached-exact : (g : Graph) (limit : ℕ) → ReachesObjectsBelow limit g → (a : ℕ) → Reached g a ↔ ((k : ℕ) × (slice_get (names_after g limit) k ≡ Some a))
Reached-exact g limit objects a = (
  λ reached. (number_in (names_after g limit) a, Reached-numbered g limit (λ b r. (objects b r).1) a reached),
  λ numbered. names_after-reached g limit numbered.0 a numbered.1,
)
