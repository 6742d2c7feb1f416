-- Graphs that are the same have equal dumps: what is paired has one number.
use Rattle.std.specs.Prelude.{◌≡◌, ◌<◌, ◌≤◌, ◌+◌, ℕ, zero, suc, Bool, true, false, ◌==◌, if◌then◌else◌, List, [], ◌∷◌, ◌++◌, map, drop, slice_get, slice_index_or, Option, Some, None}
use Rattle.std.specs.Option.{option_map}
use Rattle.std.proofs.Common.{refl, sym, ap, subst, ◌∙◌, arith}
use Rattle.std.proofs.lemmas.Option.{same_Some, slice_get-map}
use Rattle.std.proofs.lemmas.Bool.{eq-eqb, ne_eqb}
use Rattle.rh_layout.specs.declared.value.Value.{Value}
use Rattle.rh_layout.specs.declared.value.Value.TheVariants.{Nil, Ref}
use Rattle.rh_layout.specs.declared.command.RootId.{RootId}
use Rattle.rh_layout.specs.Root.{has_root}
use Rattle.rh_model.specs.Graph.{Graph, root_value}
use Rattle.rh_model.specs.Plain.{PlainObject}
use Rattle.rh_model.specs.Reach.{Reached}
use Rattle.rh_model.specs.SameGraph.{renamed_value, AreRenamed, AreFieldsRenamed, IsPairing, SameGraph}
use Rattle.rh_model.specs.lemmas.SameGraph.{renamed_cases}
use Rattle.rh_layout.specs.lemmas.Root.{has_root-slot, has_root-owner}
use Rattle.rh_model.specs.lemmas.RootValue.{root_value-missing}
use Rattle.rh_dump.specs.Dump.{GraphState}
use Rattle.rh_dump.specs.Numbering.{filled_root, filled_slots, filled_roots, roots_of, with_name, with_value, with_values, values_in, values_at, names_after, number_in, numbered_value, numbered_root, numbered_object, dump_by, dump_below}
use Rattle.rh_dump.proofs.numbers.Names.{by_names}
use Rattle.rh_dump.proofs.numbers.RootLists.{root_named, filled_roots-more}
use Rattle.rh_dump.proofs.numbers.Numbered.{held_values, names_after-enough}

-- names of one graph and names of another, paired place by place
abbrev pub ArePaired : (ℕ → Option ℕ) → List ℕ → List ℕ → Type 0
ArePaired pairing xs ys = map pairing xs ≡ map Some ys

-- entries of roots, whose values are renamed place by place
abbrev pub RootsRenamed : (ℕ → Option ℕ) → List (RootId × Value) → List (RootId × Value) → Type 0
RootsRenamed pairing [] [] = Unit {0}
RootsRenamed pairing [] (y ∷ ys) = ⊥
RootsRenamed pairing (x ∷ xs) [] = ⊥
RootsRenamed pairing (x ∷ xs) (y ∷ ys) = (x.0 ≡ y.0) × (renamed_value pairing x.1 ≡ Some y.1) × RootsRenamed pairing xs ys

-- the heads and the rests of two lists that are one
same_head : {X : Type 0} (x y d : X) (xs ys : List X) → x ∷ xs ≡ y ∷ ys → x ≡ y
same_head x y d xs ys same = ap (λ l. slice_index_or l 0 d) same

same_rest : {X : Type 0} (x y : X) (xs ys : List X) → x ∷ xs ≡ y ∷ ys → xs ≡ ys
same_rest x y xs ys same = ap (drop 1) same

cons_both : {X : Type 0} (x y : X) (xs ys : List X) → x ≡ y → xs ≡ ys → x ∷ xs ≡ y ∷ ys
cons_both x y xs ys first rest = ap (λ l. x ∷ l) rest ∙ ap (λ z. z ∷ ys) first

module _ (pairing : ℕ → Option ℕ) (one_to_one : (a b n : ℕ) → pairing a ≡ Some n → pairing b ≡ Some n → a ≡ b) where
  -- the tests of two paired names with two more agree
  tests_alike : (a b m n : ℕ) → pairing a ≡ Some m → pairing b ≡ Some n → (a == b) ≡ (m == n)
  tests_alike a b m n e f =
      by_names a b (λ t. t ≡ (m == n))
      (λ same. sym (eq-eqb m n (same_Some m n (sym e ∙ ap pairing same ∙ f))))
      (λ other. sym (ne_eqb m n (λ same. other (one_to_one a b n (e ∙ ap Some same) f))))

  -- paired names have one number
  number_in-paired : (xs ys : List ℕ) (a n : ℕ) → ArePaired pairing xs ys → pairing a ≡ Some n → number_in xs a ≡ number_in ys n
  number_in-paired [] [] a n paired e = refl
  number_in-paired [] (y ∷ ys) a n paired e = cc
  number_in-paired (x ∷ xs) [] a n paired e = cc
  number_in-paired (x ∷ xs) (y ∷ ys) a n paired e =
      let head : pairing x ≡ Some y = same_head (pairing x) (Some y) None (map pairing xs) (map Some ys) paired in
      let rest = number_in-paired xs ys a n (same_rest (pairing x) (Some y) (map pairing xs) (map Some ys) paired) e in
      ap (λ t. if t then 0 else suc (number_in xs a)) (tests_alike a x n y e head) ∙ ap (λ k. if n == y then 0 else suc k) rest

  -- and are added alike
  with_name-paired : (xs ys : List ℕ) (a n : ℕ) → ArePaired pairing xs ys → pairing a ≡ Some n → ArePaired pairing (with_name xs a) (with_name ys n)
  with_name-paired [] [] a n paired e = ap (λ o. o ∷ []) e
  with_name-paired [] (y ∷ ys) a n paired e = cc
  with_name-paired (x ∷ xs) [] a n paired e = cc
  with_name-paired (x ∷ xs) (y ∷ ys) a n paired e =
      let head : pairing x ≡ Some y = same_head (pairing x) (Some y) None (map pairing xs) (map Some ys) paired in
      let rest = with_name-paired xs ys a n (same_rest (pairing x) (Some y) (map pairing xs) (map Some ys) paired) e in
      by (a == x) (n == y) (tests_alike a x n y e head) head rest
    where
      by : (s t : Bool) → s ≡ t → pairing x ≡ Some y → ArePaired pairing (with_name xs a) (with_name ys n) → ArePaired pairing (if s then x ∷ xs else x ∷ with_name xs a) (if t then y ∷ ys else y ∷ with_name ys n)
      by true true alike head rest = paired
      by true false alike head rest = cc
      by false true alike head rest = cc
      by false false alike head rest = cons_both (pairing x) (Some y) (map pairing (with_name xs a)) (map Some (with_name ys n)) head rest

  with_value-paired : (xs ys : List ℕ) → ArePaired pairing xs ys → (v w : Value) → renamed_value pairing v ≡ Some w → ArePaired pairing (with_value xs v) (with_value ys w)
  with_value-paired xs ys paired = renamed_cases pairing (λ v w. ArePaired pairing (with_value xs v) (with_value ys w)) paired (λ n. paired) (λ a n e. with_name-paired xs ys a n paired e)

  with_values-paired : (xs ys : List ℕ) → ArePaired pairing xs ys → (vs ws : List Value) → AreRenamed pairing vs ws → ArePaired pairing (with_values xs vs) (with_values ys ws)
  with_values-paired xs ys paired [] [] same = paired
  with_values-paired xs ys paired [] (w ∷ ws) same = cc
  with_values-paired xs ys paired (v ∷ vs) [] same = cc
  with_values-paired xs ys paired (v ∷ vs) (w ∷ ws) same =
      with_values-paired (with_value xs v) (with_value ys w)
      (with_value-paired xs ys paired v w (same_head (renamed_value pairing v) (Some w) None (map (renamed_value pairing) vs) (map Some ws) same))
      vs ws (same_rest (renamed_value pairing v) (Some w) (map (renamed_value pairing) vs) (map Some ws) same)

  -- values that are renamed are numbered alike
  numbered_value-paired : (xs ys : List ℕ) → ArePaired pairing xs ys → (v w : Value) → renamed_value pairing v ≡ Some w → numbered_value xs v ≡ numbered_value ys w
  numbered_value-paired xs ys paired = renamed_cases pairing (λ v w. numbered_value xs v ≡ numbered_value ys w) refl (λ n. refl) (λ a n e. ap Ref (number_in-paired xs ys a n paired e))

  numbered_values-paired : (xs ys : List ℕ) → ArePaired pairing xs ys → (vs ws : List Value) → AreRenamed pairing vs ws → map (numbered_value xs) vs ≡ map (numbered_value ys) ws
  numbered_values-paired xs ys paired [] [] same = refl
  numbered_values-paired xs ys paired [] (w ∷ ws) same = cc
  numbered_values-paired xs ys paired (v ∷ vs) [] same = cc
  numbered_values-paired xs ys paired (v ∷ vs) (w ∷ ws) same =
      cons_both (numbered_value xs v) (numbered_value ys w) (map (numbered_value xs) vs) (map (numbered_value ys) ws)
      (numbered_value-paired xs ys paired v w (same_head (renamed_value pairing v) (Some w) None (map (renamed_value pairing) vs) (map Some ws) same))
      (numbered_values-paired xs ys paired vs ws (same_rest (renamed_value pairing v) (Some w) (map (renamed_value pairing) vs) (map Some ws) same))

  numbered_roots-paired : (xs ys : List ℕ) → ArePaired pairing xs ys → (rs ss : List (RootId × Value)) → RootsRenamed pairing rs ss
      → map (numbered_root xs) rs ≡ map (numbered_root ys) ss
  numbered_roots-paired xs ys paired [] [] same = refl
  numbered_roots-paired xs ys paired [] (s ∷ ss) same = absurd same
  numbered_roots-paired xs ys paired (r ∷ rs) [] same = absurd same
  numbered_roots-paired xs ys paired (r ∷ rs) (s ∷ ss) same =
      cons_both (numbered_root xs r) (numbered_root ys s) (map (numbered_root xs) rs) (map (numbered_root ys) ss)
      (ap (λ (id : RootId). let entry : RootId × Value = (id, numbered_value xs r.1) in entry) same.0 ∙ ap (λ (v : Value). let entry : RootId × Value = (s.0, v) in entry) (numbered_value-paired xs ys paired r.1 s.1 same.1))
      (numbered_roots-paired xs ys paired rs ss same.2)

  -- Roots that are renamed by name are renamed in order

  RootsRenamed-append : (xs ys zs ws : List (RootId × Value)) → RootsRenamed pairing xs ys → RootsRenamed pairing zs ws → RootsRenamed pairing (xs ++ zs) (ys ++ ws)
  RootsRenamed-append [] [] zs ws first second = second
  RootsRenamed-append [] (y ∷ ys) zs ws first second = absurd first
  RootsRenamed-append (x ∷ xs) [] zs ws first second = absurd first
  RootsRenamed-append (x ∷ xs) (y ∷ ys) zs ws first second = (first.0, first.1, RootsRenamed-append xs ys zs ws first.2 second)

  RootsRenamed-root : (r : RootId) (v w : Value) → renamed_value pairing v ≡ Some w → RootsRenamed pairing (filled_root r v) (filled_root r w)
  RootsRenamed-root r = renamed_cases pairing (λ v w. RootsRenamed pairing (filled_root r v) (filled_root r w)) tt (λ n. (refl, refl, tt)) (λ a n e. (refl, ap (option_map Ref) e, tt))

  module _ (held kept : RootId → Value) (each : (r : RootId) → renamed_value pairing (held r) ≡ Some (kept r)) where
    RootsRenamed-slots : (owner slots : ℕ) → RootsRenamed pairing (filled_slots held owner slots) (filled_slots kept owner slots)
    RootsRenamed-slots owner zero = tt
    RootsRenamed-slots owner (suc slots) =
        RootsRenamed-append (filled_slots held owner slots) (filled_slots kept owner slots) (filled_root (root_named owner slots) (held (root_named owner slots))) (filled_root (root_named owner slots) (kept (root_named owner slots)))
        (RootsRenamed-slots owner slots) (RootsRenamed-root (root_named owner slots) (held (root_named owner slots)) (kept (root_named owner slots)) (each (root_named owner slots)))

    RootsRenamed-roots : (slots owners : ℕ) → RootsRenamed pairing (filled_roots held slots owners) (filled_roots kept slots owners)
    RootsRenamed-roots slots zero = tt
    RootsRenamed-roots slots (suc owners) =
        RootsRenamed-append (filled_roots held slots owners) (filled_roots kept slots owners) (filled_slots held owners slots) (filled_slots kept owners slots)
        (RootsRenamed-roots slots owners) (RootsRenamed-slots owners slots)

  RootsRenamed-values : (rs ss : List (RootId × Value)) → RootsRenamed pairing rs ss → AreRenamed pairing (map (λ (root : RootId × Value). root.1) rs) (map (λ (root : RootId × Value). root.1) ss)
  RootsRenamed-values [] [] same = refl
  RootsRenamed-values [] (s ∷ ss) same = absurd same
  RootsRenamed-values (r ∷ rs) [] same = absurd same
  RootsRenamed-values (r ∷ rs) (s ∷ ss) same =
      cons_both (renamed_value pairing r.1) (Some s.1) (map (renamed_value pairing) (map (λ (root : RootId × Value). root.1) rs)) (map Some (map (λ (root : RootId × Value). root.1) ss)) same.1 (RootsRenamed-values rs ss same.2)

-- Roots past a graph's owners and slots are nil

root_value-past_slots : (g : Graph) (owner slot : ℕ) → g.slots ≤ slot → root_value g (root_named owner slot) ≡ Nil
root_value-past_slots g owner slot past = by (has_root g.owners g.slots (root_named owner slot)) refl
  where
    by : (t : Bool) → has_root g.owners g.slots (root_named owner slot) ≡ t → root_value g (root_named owner slot) ≡ Nil
    by true here = let within = has_root-slot g.owners g.slots (root_named owner slot) here in absurd (omega (arith, within, past))
    by false missing = root_value-missing g (root_named owner slot) missing

root_value-past_owners : (g : Graph) (owner slot : ℕ) → g.owners ≤ owner → root_value g (root_named owner slot) ≡ Nil
root_value-past_owners g owner slot past = by (has_root g.owners g.slots (root_named owner slot)) refl
  where
    by : (t : Bool) → has_root g.owners g.slots (root_named owner slot) ≡ t → root_value g (root_named owner slot) ≡ Nil
    by true here = let within = has_root-owner g.owners g.slots (root_named owner slot) here in absurd (omega (arith, within, past))
    by false missing = root_value-missing g (root_named owner slot) missing

-- so more owners and slots may be looked through
pub roots_of-more : (g : Graph) (more_slots more_owners : ℕ) → filled_roots (root_value g) (more_slots + g.slots) (more_owners + g.owners) ≡ roots_of g
roots_of-more g more_slots more_owners =
    filled_roots-more (root_value g) g.slots more_slots g.owners more_owners (root_value-past_slots g) (root_value-past_owners g)

module _ (g h : Graph) (pairing : ℕ → Option ℕ) (p : IsPairing g h pairing) where
  roots_of-renamed : RootsRenamed pairing (roots_of g) (roots_of h)
  roots_of-renamed =
      let slots : (h.slots + g.slots) ≡ (g.slots + h.slots) = omega arith in
      let owners : (h.owners + g.owners) ≡ (g.owners + h.owners) = omega arith in
      let these = sym (roots_of-more g h.slots h.owners) in
      let those = sym (roots_of-more h g.slots g.owners) in
      let grid : filled_roots (root_value h) (h.slots + g.slots) (h.owners + g.owners) ≡ filled_roots (root_value h) (g.slots + h.slots) (g.owners + h.owners) =
      ap (λ s. filled_roots (root_value h) s (h.owners + g.owners)) slots ∙ ap (filled_roots (root_value h) (g.slots + h.slots)) owners in
      subst (λ l. RootsRenamed pairing l (roots_of h)) (sym these)
      (subst (RootsRenamed pairing (filled_roots (root_value g) (h.slots + g.slots) (h.owners + g.owners))) (grid ∙ sym those)
      (RootsRenamed-roots pairing p.one_to_one (root_value g) (root_value h) p.roots (h.slots + g.slots) (h.owners + g.owners)))

  values_in-renamed : (x y : Option (List Value)) → AreFieldsRenamed pairing x y → AreRenamed pairing (values_in x) (values_in y)
  values_in-renamed None y same = absurd same
  values_in-renamed (Some these) None same = absurd same
  values_in-renamed (Some these) (Some those) same = same

  values_at-renamed : (x y : Option ℕ) → option_map pairing x ≡ option_map Some y → AreRenamed pairing (values_at g x) (values_at h y)
  values_at-renamed None None same = refl
  values_at-renamed None (Some n) same = cc
  values_at-renamed (Some a) None same = cc
  values_at-renamed (Some a) (Some n) same = values_in-renamed (g.fields a) (h.fields n) (p.fields a n (same_Some (pairing a) (Some n) same))

  names_after-paired : (n : ℕ) → ArePaired pairing (names_after g n) (names_after h n)
  names_after-paired zero = with_values-paired pairing p.one_to_one [] [] refl (held_values g) (held_values h) (RootsRenamed-values pairing p.one_to_one (roots_of g) (roots_of h) roots_of-renamed)
  names_after-paired (suc n) =
      with_values-paired pairing p.one_to_one (names_after g n) (names_after h n) (names_after-paired n)
      (values_at g (slice_get (names_after g n) n)) (values_at h (slice_get (names_after h n) n))
      (values_at-renamed (slice_get (names_after g n) n) (slice_get (names_after h n) n)
      (sym (slice_get-map pairing (names_after g n) n) ∙ ap (λ l. slice_get l n) (names_after-paired n) ∙ slice_get-map Some (names_after h n) n))

  abbrev made : Bool → List Value → PlainObject
  made raw fields = record { raw = raw; fields = fields }

  objects-paired : (xs ys all these : List ℕ) → ArePaired pairing xs ys → ArePaired pairing all these
      → map (numbered_object g all) xs ≡ map (numbered_object h these) ys
  objects-paired [] [] all these paired whole = refl
  objects-paired [] (y ∷ ys) all these paired whole = cc
  objects-paired (x ∷ xs) [] all these paired whole = cc
  objects-paired (x ∷ xs) (y ∷ ys) all these paired whole =
      let head : pairing x ≡ Some y = same_head (pairing x) (Some y) None (map pairing xs) (map Some ys) paired in
      cons_both (numbered_object g all x) (numbered_object h these y) (map (numbered_object g all) xs) (map (numbered_object h these) ys)
      (ap (λ (raw : Bool). made raw (map (numbered_value all) (values_in (g.fields x)))) (p.kinds x y head)
      ∙ ap (made (h.raw y)) (numbered_values-paired pairing p.one_to_one all these whole (values_in (g.fields x)) (values_in (h.fields y)) (values_in-renamed (g.fields x) (h.fields y) (p.fields x y head))))
      (objects-paired xs ys all these (same_rest (pairing x) (Some y) (map pairing xs) (map Some ys) paired) whole)

  dump_by-paired : (xs ys : List ℕ) → ArePaired pairing xs ys → dump_by g xs ≡ dump_by h ys
  dump_by-paired xs ys paired =
      let roots = numbered_roots-paired pairing p.one_to_one xs ys paired (roots_of g) (roots_of h) roots_of-renamed in
      let objects = objects-paired xs ys xs ys paired paired in
      ap (λ (r : List (RootId × Value)). let d : GraphState = record { roots = r; objects = map (numbered_object g xs) xs } in d) roots
      ∙ ap (λ (o : List PlainObject). let d : GraphState = record { roots = map (numbered_root ys) (roots_of h); objects = o } in d) objects

-- the same graph has the same dump
pub dump_below-same : (g h : Graph) (m n : ℕ) → ((a : ℕ) → Reached g a → a < m) → ((a : ℕ) → Reached h a → a < n) → SameGraph g h → dump_below m g ≡ dump_below n h
dump_below-same g h m n few_here few_there s =
    let sum : (n + m) ≡ (m + n) = omega arith in
    ap (dump_by g) (sym (names_after-enough g m few_here n) ∙ ap (names_after g) sum)
    ∙ dump_by-paired g h s.0 s.1 (names_after g (m + n)) (names_after h (m + n)) (names_after-paired g h s.0 s.1 (m + n))
    ∙ ap (dump_by h) (names_after-enough h n few_there m)
