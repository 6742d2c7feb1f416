-- Objects that are numbered breadth first already keep their numbers: the names met are 0, 1, 2 and so on.
use Rattle.std.specs.Prelude.{◌≡◌, ◌<◌, ◌≤◌, ◌+◌, ℕ, zero, suc, Bool, false, if◌then◌else◌, List, [], ◌∷◌, ◌++◌, map, length, slice_get, slice_index_or, Option, Some}
use Rattle.std.specs.List.{flat_map}
use Rattle.std.specs.Option.{option_map}
use Rattle.std.proofs.Common.{refl, sym, ap, subst, ◌∙◌, arith, inl, inr}
use Rattle.std.proofs.Math.ListN.{get_or, length-map}
use Rattle.std.proofs.lemmas.Bool.{cases_eq, cases_lt, lt-ltb, le-ltb}
use Rattle.std.proofs.lemmas.List.{length_push, ext_get_or}
use Rattle.std.proofs.lemmas.Option.{same_Some, slice_get_within, slice_get-get_or, slice_get-map, get_or_from_slice_get}
use Rattle.rh_layout.specs.declared.value.Value.{Value}
use Rattle.rh_layout.specs.declared.value.Value.TheVariants.{Nil, Int, Ref}
use Rattle.rh_layout.specs.declared.command.RootId.{RootId}
use Rattle.rh_layout.specs.lemmas.Elements.{slice_get-append, slice_get-pushed}
use Rattle.rh_model.specs.Graph.{Graph}
use Rattle.rh_model.specs.Plain.{PlainObject, field_lists, kinds}
use Rattle.rh_dump.specs.Dump.{GraphState, IsGraph, root_values, values_of, met_with, met_after, IsNumberedAfter, AreNumbered, AreMetBefore}
use Rattle.rh_dump.specs.Numbering.{with_name, with_value, with_values, roots_of, values_in, values_at, names_after, number_in, numbered_value, numbered_root, numbered_object, dump_by, dump_below}
use Rattle.rh_dump.specs.Meeting.{IsBelow}
use Rattle.rh_dump.proofs.numbers.Names.{Member, Member-at, Member-left, Member-right, HasName, HasName-at, name_cases, with_name-known, with_name-new}
use Rattle.rh_dump.proofs.numbers.Numbered.{Member-map}
use Rattle.rh_dump.proofs.numbers.MetValues.{met_after-append}

-- The names 0, 1, 2 and so on

-- so many names, each its own number
abbrev pub names_below : ℕ → List ℕ
names_below zero = []
names_below (suc n) = names_below n ++ n ∷ []

length-names_below : (n : ℕ) → length (names_below n) ≡ n
length-names_below zero = refl
length-names_below (suc n) = length_push (names_below n) n ∙ omega (arith, length-names_below n)

slice_get-names_below : (n k : ℕ) → k < n → slice_get (names_below n) k ≡ Some k
slice_get-names_below zero k less = absurd (omega (arith, less))
slice_get-names_below (suc n) k less = elim (cases_eq k n) [
  | inl last ↦
      ap (slice_get (names_below n ++ n ∷ [])) (last ∙ sym (length-names_below n)) ∙ slice_get-pushed (names_below n) n ∙ ap Some (sym last)
  | inr before ↦ slice_get-append (names_below n) (n ∷ []) k k (slice_get-names_below n k (omega (arith, less, before)))
]

-- a name that is there is its own number
own_number : (n k j : ℕ) → slice_get (names_below n) j ≡ Some k → j ≡ k
own_number n k j is =
    let within : j < length (names_below n) = slice_get_within (names_below n) j k is in
    same_Some j k (sym (slice_get-names_below n j (omega (arith, within, length-names_below n))) ∙ is)

has_name : (n k : ℕ) → k < n → HasName (names_below n) k
has_name n k less = HasName-at (names_below n) k k (slice_get-names_below n k less)

number_in-names_below : (n k : ℕ) → k < n → number_in (names_below n) k ≡ k
number_in-names_below n k less = own_number n k (number_in (names_below n) k) (has_name n k less)

-- the next name is a new one
next_name : (n : ℕ) → with_name (names_below n) n ≡ names_below (suc n)
next_name n = elim (name_cases (names_below n) n) [
  | inl has ↦
      let within : number_in (names_below n) n < length (names_below n) = slice_get_within (names_below n) (number_in (names_below n) n) n has in
      absurd (omega (arith, own_number n n (number_in (names_below n) n) has, within, length-names_below n))
  | inr past ↦ with_name-new (names_below n) n past
]

-- Values that are numbered breadth first add the next names

with_value-names_below : (n : ℕ) (v : Value) → IsNumberedAfter n v → with_value (names_below n) v ≡ names_below (met_with n v)
with_value-names_below n Nil numbered = refl
with_value-names_below n (Int m) numbered = refl
with_value-names_below n (Ref k) numbered = elim (cases_lt k n) [
  | inl less ↦ with_name-known (names_below n) k (has_name n k less) ∙ ap (λ t. names_below (if t then n else k + 1)) (sym (lt-ltb k n less))
  | inr past ↦
      let last : k ≡ n = omega (arith, numbered, past) in
      let next : suc n ≡ k + 1 = omega (arith, last) in
      ap (with_name (names_below n)) last ∙ next_name n ∙ ap names_below next ∙ ap (λ t. names_below (if t then n else k + 1)) (sym (le-ltb k n (omega (arith, past))))
]

with_values-names_below : (n : ℕ) (vs : List Value) → AreNumbered n vs → with_values (names_below n) vs ≡ names_below (met_after n vs)
with_values-names_below n [] numbered = refl
with_values-names_below n (v ∷ vs) numbered =
    ap (λ l. with_values l vs) (with_value-names_below n v numbered.0) ∙ with_values-names_below (met_with n v) vs numbered.1

AreNumbered-parts : (met : ℕ) (xs ys : List Value) → AreNumbered met (xs ++ ys) → AreNumbered met xs × AreNumbered (met_after met xs) ys
AreNumbered-parts met [] ys numbered = (tt, numbered)
AreNumbered-parts met (x ∷ xs) ys numbered =
    let rest = AreNumbered-parts (met_with met x) xs ys numbered.1 in ((numbered.0, rest.0), rest.1)

-- what the fields of all objects hold
abbrev all_fields : List PlainObject → List Value
all_fields objects = flat_map (λ object. object.fields) objects

module _ (h : Graph) where
  -- one object more is looked at
  look : (k m : ℕ) (fields : List Value) → values_in (h.fields k) ≡ fields → k < m → AreNumbered m fields → names_after h k ≡ names_below m → names_after h (suc k) ≡ names_below (met_after m fields)
  look k m fields is less numbered names =
      let there : slice_get (names_after h k) k ≡ Some k = ap (λ l. slice_get l k) names ∙ slice_get-names_below m k less in
      ap (λ o. with_values (names_after h k) (values_at h o)) there
      ∙ ap (with_values (names_after h k)) is
      ∙ ap (λ l. with_values l fields) names
      ∙ with_values-names_below m fields numbered

  -- so many objects are looked at, from a number on
  looks : (k m : ℕ) (objects : List PlainObject) → ((i : ℕ) → h.fields (k + i) ≡ slice_get (field_lists objects) i) → AreMetBefore k m objects → AreNumbered m (all_fields objects)
      → names_after h k ≡ names_below m → names_after h (k + length objects) ≡ names_below (met_after m (all_fields objects))
  looks k m [] at before numbered names = let none : k + 0 ≡ k = omega arith in ap (names_after h) none ∙ names
  looks k m (object ∷ others) at before numbered names =
      let fields = object.fields in
      let parts = AreNumbered-parts m fields (all_fields others) numbered in
      let here : k + 0 ≡ k = omega arith in
      let found : values_in (h.fields k) ≡ fields = ap values_in (ap h.fields (sym here) ∙ at 0) in
      let next : k + 1 ≡ suc k = omega arith in
      let sum : k + suc (length others) ≡ (k + 1) + length others = omega arith in
      let shift : (i : ℕ) → (k + 1) + i ≡ k + suc i = λ i. omega arith in
      ap (names_after h) sum
      ∙ looks (k + 1) (met_after m fields) others (λ i. ap h.fields (shift i) ∙ at (suc i)) before.1 parts.1
      (ap (names_after h) next ∙ look k m fields found before.0 parts.0 names)
      ∙ ap names_below (sym (met_after-append m fields (all_fields others)))

-- Values keep their numbers

met_with-more : (met : ℕ) (v : Value) → met ≤ met_with met v
met_with-more met Nil = omega arith
met_with-more met (Int n) = omega arith
met_with-more met (Ref k) = elim (cases_lt k met) [
  | inl less ↦ omega (arith, ap (λ t. if t then met else k + 1) (lt-ltb k met less))
  | inr past ↦ omega (arith, past, ap (λ t. if t then met else k + 1) (le-ltb k met (omega (arith, past))))
]

met_after-more : (met : ℕ) (vs : List Value) → met ≤ met_after met vs
met_after-more met [] = omega arith
met_after-more met (v ∷ vs) = omega (arith, met_with-more met v, met_after-more (met_with met v) vs)

IsBelow-more : (m n : ℕ) → m ≤ n → (v : Value) → IsBelow m v → IsBelow n v
IsBelow-more m n few Nil below = tt
IsBelow-more m n few (Int k) below = tt
IsBelow-more m n few (Ref k) below = omega (arith, few, below)

IsBelow-met : (met : ℕ) (v : Value) → IsBelow (met_with met v) v
IsBelow-met met Nil = tt
IsBelow-met met (Int n) = tt
IsBelow-met met (Ref k) = elim (cases_lt k met) [
  | inl less ↦ omega (arith, less, ap (λ t. if t then met else k + 1) (lt-ltb k met less))
  | inr past ↦ omega (arith, past, ap (λ t. if t then met else k + 1) (le-ltb k met (omega (arith, past))))
]

-- a reference is to an object that was met once its value was
pub IsBelow-member : (met : ℕ) (vs : List Value) (v : Value) → Member v vs → IsBelow (met_after met vs) v
IsBelow-member met [] v m = absurd m
IsBelow-member met (w ∷ vs) v (inl is) =
    IsBelow-more (met_with met w) (met_after (met_with met w) vs) (met_after-more (met_with met w) vs) v (subst (IsBelow (met_with met w)) is (IsBelow-met met w))
IsBelow-member met (w ∷ vs) v (inr m) = IsBelow-member (met_with met w) vs v m

numbered_value-names_below : (n : ℕ) (v : Value) → IsBelow n v → numbered_value (names_below n) v ≡ v
numbered_value-names_below n Nil below = refl
numbered_value-names_below n (Int m) below = refl
numbered_value-names_below n (Ref k) below = ap Ref (number_in-names_below n k below)

map-same : {X : Type 0} (f : X → X) (xs : List X) → ((x : X) → Member x xs → f x ≡ x) → map f xs ≡ xs
map-same f [] same = refl
map-same f (x ∷ xs) same = ap (λ l. f x ∷ l) (map-same f xs (λ y m. same y (inr m))) ∙ ap (λ y. y ∷ xs) (same x (inl refl))

-- what is made of each name, where that is an element of a list
map-names_below : {X : Type 0} (f : ℕ → X) (d : X) (xs : List X) → ((i : ℕ) (x : X) → slice_get xs i ≡ Some x → f i ≡ x) → map f (names_below (length xs)) ≡ xs
map-names_below f d xs made = ext_get_or d (map f (names_below (length xs))) xs sizes each
  where
    sizes : length (map f (names_below (length xs))) ≡ length xs
    sizes = length-map (names_below (length xs)) f ∙ length-names_below (length xs)

    each : (i : ℕ) → i < length (map f (names_below (length xs))) → get_or (map f (names_below (length xs))) i d ≡ get_or xs i d
    each i inside =
        let less : i < length xs = omega (arith, inside, sizes) in
        let named : slice_get (map f (names_below (length xs))) i ≡ Some (f i) =
        slice_get-map f (names_below (length xs)) i ∙ ap (option_map f) (slice_get-names_below (length xs) i less) in
        get_or_from_slice_get (map f (names_below (length xs))) i (f i) d named ∙ made i (get_or xs i d) (slice_get-get_or xs i d less)

-- what a field of an object holds is among what all fields hold
pub Member-fields : (objects : List PlainObject) (object : PlainObject) (v : Value) → Member object objects → Member v object.fields → Member v (all_fields objects)
Member-fields [] object v m at = absurd m
Member-fields (other ∷ objects) object v (inl is) at = Member-left v other.fields (all_fields objects) (subst (λ (o : PlainObject). Member v o.fields) (sym is) at)
Member-fields (other ∷ objects) object v (inr m) at = Member-right v other.fields (all_fields objects) (Member-fields objects object v m at)

-- A heap with a graph's roots and objects has the graph as its dump

module _ (g : GraphState) (is : IsGraph g) where
  -- each reference is to one of the objects
  pub IsBelow-root : (x : RootId × Value) → Member x g.roots → IsBelow (length g.objects) x.1
  IsBelow-root x m =
      subst (λ n. IsBelow n x.1) is.all_met
      (IsBelow-member 0 (values_of g) x.1 (Member-left x.1 (root_values g.roots) (all_fields g.objects) (Member-map (λ (root : RootId × Value). root.1) x g.roots m)))

  pub IsBelow-field : (object : PlainObject) (v : Value) → Member object g.objects → Member v object.fields → IsBelow (length g.objects) v
  IsBelow-field object v m at =
      subst (λ n. IsBelow n v) is.all_met
      (IsBelow-member 0 (values_of g) v (Member-right v (root_values g.roots) (all_fields g.objects) (Member-fields g.objects object v m at)))

  module _ (h : Graph) (roots : roots_of h ≡ g.roots) (fields : (a : ℕ) → h.fields a ≡ slice_get (field_lists g.objects) a) (kinds_are : (a : ℕ) → h.raw a ≡ slice_index_or (kinds g.objects) a false) where
    names : names_after h (length g.objects) ≡ names_below (length g.objects)
    names =
        let parts = AreNumbered-parts 0 (root_values g.roots) (all_fields g.objects) is.numbered in
        let first : names_after h 0 ≡ names_below (met_after 0 (root_values g.roots)) =
        ap (λ (rs : List (RootId × Value)). with_values [] (root_values rs)) roots ∙ with_values-names_below 0 (root_values g.roots) parts.0 in
        let start : (i : ℕ) → 0 + i ≡ i = λ i. omega arith in
        ap (names_after h) (sym (start (length g.objects)))
        ∙ looks h 0 (met_after 0 (root_values g.roots)) g.objects (λ i. ap h.fields (start i) ∙ fields i) is.met_before parts.1 first
        ∙ ap names_below (sym (met_after-append 0 (root_values g.roots) (all_fields g.objects)) ∙ is.all_met)

    -- a root, and the fields of an object, with the numbers that they have
    root_numbered : (x : RootId × Value) → Member x g.roots → numbered_root (names_below (length g.objects)) x ≡ x
    root_numbered x m =
        let entry : Value → RootId × Value = λ v. (x.0, v) in
        ap entry (numbered_value-names_below (length g.objects) x.1 (IsBelow-root x m))

    object_numbered : (i : ℕ) (object : PlainObject) → slice_get g.objects i ≡ Some object → numbered_object h (names_below (length g.objects)) i ≡ object
    object_numbered i object at =
        let all : List ℕ = names_below (length g.objects) in
        let made : Bool → List Value → PlainObject = λ raw values. record { raw = raw; fields = values } in
        let found : slice_get (field_lists g.objects) i ≡ Some object.fields = slice_get-map (λ (o : PlainObject). o.fields) g.objects i ∙ ap (option_map (λ (o : PlainObject). o.fields)) at in
        let kind : slice_get (kinds g.objects) i ≡ Some object.raw = slice_get-map (λ (o : PlainObject). o.raw) g.objects i ∙ ap (option_map (λ (o : PlainObject). o.raw)) at in
        ap (λ (o : Option (List Value)). made (h.raw i) (map (numbered_value all) (values_in o))) (fields i ∙ found)
        ∙ ap (λ (raw : Bool). made raw (map (numbered_value all) object.fields)) (kinds_are i ∙ get_or_from_slice_get (kinds g.objects) i object.raw false kind)
        ∙ ap (made object.raw) (map-same (numbered_value all) object.fields
        (λ v m. numbered_value-names_below (length g.objects) v (IsBelow-field object v (Member-at object g.objects i at) m)))

    pub dump_below-graph : dump_below (length g.objects) h ≡ g
    dump_below-graph =
        let all : List ℕ = names_below (length g.objects) in
        let same_roots : map (numbered_root all) (roots_of h) ≡ g.roots = ap (map (numbered_root all)) roots ∙ map-same (numbered_root all) g.roots root_numbered in
        let none : PlainObject = record { raw = false; fields = [] } in
        let same_objects : map (numbered_object h all) all ≡ g.objects = map-names_below (numbered_object h all) none g.objects object_numbered in
        let both : dump_by h all ≡ g = λ i. record { roots = same_roots i; objects = same_objects i } in
        ap (dump_by h) names ∙ both
