-- What is stored once all objects were looked at is the dump, and every dump of a heap is a graph.
use Rattle.std.specs.Prelude.{◌≡◌, ◌≢◌, ◌⊎◌, ◌<◌, ◌≤◌, ◌+◌, ◌-◌, ℕ, zero, suc, List, [], ◌∷◌, ◌++◌, map, length, take, drop, slice_get, Option, Some, None}
use Rattle.std.specs.List.{flat_map, AllByRecursion}
use Rattle.std.proofs.Common.{refl, sym, ap, subst, ◌∙◌, arith, inl, inr, append_assoc}
use Rattle.std.proofs.lemmas.Option.{none-some, same_Some, slice_get-get_or}
use Rattle.std.proofs.Math.ListN.{get_or, length-map}
use Rattle.std.proofs.lemmas.List.{append-nil, length-append, length_push, take-append-drop, map-append}
use Rattle.std.proofs.lemmas.Bool.{cases_lt}
use Rattle.rh_layout.specs.declared.value.Value.{Value}
use Rattle.rh_layout.specs.declared.value.Value.TheVariants.{Nil, Int, Ref}
use Rattle.rh_layout.specs.declared.command.RootId.{RootId}
use Rattle.rh_layout.specs.declared.shape.Shape.{Shape}
use Rattle.rh_layout.specs.Shape.{shape_of}
use Rattle.rh_model.specs.Plain.{PlainObject}
use Rattle.rh_model.specs.Graph.{Graph, root_value}
use Rattle.rh_dump.specs.Dump.{GraphState, values_of, root_values, met_after, AreNumbered, AreMetBefore, IsTold, IsRootTold, IsRootBefore, IsRootAfter, RootsRise, IsUnreferring, IsObjectTold, IsGraph}
use Rattle.rh_dump.specs.Graph.{objects_in, graph_in, total}
use Rattle.rh_dump.proofs.numbers.ObjectsIn.{length-objects_in}
use Rattle.rh_dump.specs.Numbering.{filled_root, filled_slots, filled_roots, roots_of, with_value, values_in, values_at, kind_at, names_after, numbered_value, numbered_root, numbered_object, dump_by, dump_below, ReachesObjectsBelow}
use Rattle.rh_dump.specs.Dumpable.{IsTellable, IsDumpable}
use Rattle.rh_dump.specs.Meeting.{met_values, met_roots, shape_at, shapes_after, values_after, flat_after}
use Rattle.rh_dump.specs.lemmas.Reaching.{reaches_objects}
use Rattle.rh_dump.proofs.numbers.Names.{Member, place_of_Member, Member-either, with_values-keeps}
use Rattle.rh_dump.proofs.numbers.RootLists.{root_named, Member-filled_root, entry_of_roots}
use Rattle.rh_dump.proofs.numbers.Numbered.{held_values, Member-map_back, IsOnce-names_after, names_after-more}
use Rattle.rh_dump.proofs.numbers.MetValues.{IsBeginning, met_values-all, met_roots-all, length-met_values, met_after-values, AreNumbered-values, met_after-append, AreNumbered-append}

-- one more shape, with so many more values
pub total_push : (xs : List Shape) (x : Shape) → total (xs ++ x ∷ []) ≡ total xs + x.fields
total_push [] x = omega arith
total_push (y ∷ xs) x = omega (arith, total_push xs x)

pub take-all : {X : Type 0} (xs : List X) → take (length xs) xs ≡ xs
take-all [] = refl
take-all (x ∷ xs) = ap (λ l. x ∷ l) (take-all xs)

take-part : {X : Type 0} (n : ℕ) (xs ys : List X) → n ≤ length xs → take n (xs ++ ys) ≡ take n xs
take-part zero xs ys few = refl
take-part (suc n) [] ys few = absurd (omega (arith, few))
take-part (suc n) (x ∷ xs) ys few = ap (λ l. x ∷ l) (take-part n xs ys (omega (arith, few)))

drop-part : {X : Type 0} (n : ℕ) (xs ys : List X) → n ≤ length xs → drop n (xs ++ ys) ≡ drop n xs ++ ys
drop-part zero xs ys few = refl
drop-part (suc n) [] ys few = absurd (omega (arith, few))
drop-part (suc n) (x ∷ xs) ys few = drop-part n xs ys (omega (arith, few))

length-rest : {X : Type 0} (n : ℕ) (xs : List X) → length (drop n xs) + n ≡ length xs ⊎ (length xs < n)
length-rest zero xs = inl (omega arith)
length-rest (suc n) [] = inr (omega arith)
length-rest (suc n) (x ∷ xs) = elim (length-rest n xs) [ inl is ↦ inl (omega (arith, is)) | inr less ↦ inr (omega (arith, less)) ]

pub objects_in-push : (shapes : List Shape) (values : List Value) (object : PlainObject) → total shapes ≡ length values → objects_in (shapes ++ shape_of (length object.fields) object.raw ∷ []) (values ++ object.fields) ≡ objects_in shapes values ++ object ∷ []
objects_in-push [] [] object filled = ap (λ (l : List Value). let o : PlainObject = record { raw = object.raw; fields = l } in o ∷ []) (take-all object.fields)
objects_in-push [] (v ∷ values) object filled = absurd (omega (arith, filled))
objects_in-push (shape ∷ shapes) values object filled =
    let count = shape.fields in
    let more = object.fields in
    let last = shape_of (length more) object.raw in
    let made : List Value → PlainObject = λ l. record { raw = shape.raw; fields = l } in
    let whole : (count + total shapes) ≡ length values = filled in
    let few : count ≤ length values = omega (arith, whole) in
    let rest : total shapes ≡ length (drop count values) = elim (length-rest count values) [ inl is ↦ omega (arith, is, whole) | inr less ↦ absurd (omega (arith, less, few)) ] in
    ap (λ l. made l ∷ objects_in (shapes ++ last ∷ []) (drop count (values ++ more))) (take-part count values more few)
    ∙ ap (λ l. made (take count values) ∷ objects_in (shapes ++ last ∷ []) l) (drop-part count values more few)
    ∙ ap (λ l. made (take count values) ∷ l) (objects_in-push shapes (drop count values) object rest)

pub take-next : {X : Type 0} (k : ℕ) (xs : List X) (x : X) → slice_get xs k ≡ Some x → take (suc k) xs ≡ take k xs ++ x ∷ []
take-next k [] x is = absurd (none-some x is)
take-next zero (y ∷ ys) x is = ap (λ z. z ∷ []) (same_Some y x is)
take-next (suc k) (y ∷ ys) x is = ap (λ l. y ∷ l) (take-next k ys x is)

take_drop : {X : Type 0} (n : ℕ) (xs : List X) → take n xs ++ drop n xs ≡ xs
take_drop n xs = take-append-drop n xs

-- the fields of all objects are the values
flat_objects_in : (shapes : List Shape) (values : List Value) → total shapes ≡ length values → flat_map (λ object. object.fields) (objects_in shapes values) ≡ values
flat_objects_in [] [] filled = refl
flat_objects_in [] (v ∷ values) filled = absurd (omega (arith, filled))
flat_objects_in (shape ∷ shapes) values filled =
    let count = shape.fields in
    let whole : (count + total shapes) ≡ length values = filled in
    let rest : total shapes ≡ length (drop count values) = elim (length-rest count values) [ inl is ↦ omega (arith, is, whole) | inr less ↦ absurd (omega (arith, less, whole)) ] in
    ap (λ l. take count values ++ l) (flat_objects_in shapes (drop count values) rest) ∙ take_drop count values

AreMetBefore-push : (number met : ℕ) (xs : List PlainObject) (object : PlainObject) → AreMetBefore number met xs → number + length xs < met_after met (flat_map (λ these. these.fields) xs) → AreMetBefore number met (xs ++ object ∷ [])
AreMetBefore-push number met [] object before next = (omega (arith, next), tt)
AreMetBefore-push number met (x ∷ xs) object before next = (
  before.0,
  AreMetBefore-push (number + 1) (met_after met x.fields) xs object before.1
      (omega (arith, next, met_after-append met x.fields (flat_map (λ these. these.fields) xs))),
)

root_values-met_roots : (names : List ℕ) (roots : List (RootId × Value)) → root_values (met_roots names roots) ≡ met_values names (map (λ (root : RootId × Value). root.1) roots)
root_values-met_roots names [] = refl
root_values-met_roots names (r ∷ roots) = ap (λ l. numbered_value (with_value names r.1) r.1 ∷ l) (root_values-met_roots (with_value names r.1) roots)

module _ (g : Graph) where
  -- the fields of the object that is looked at next
  abbrev fields_next : ℕ → List Value
  fields_next n = values_at g (slice_get (names_after g n) n)

  -- its shape, and as it is put
  abbrev shape_next : ℕ → Shape
  shape_next n = shape_at g (slice_get (names_after g n) n)

  abbrev object_put : ℕ → PlainObject
  object_put n = record { raw = kind_at g (slice_get (names_after g n) n); fields = met_values (names_after g n) (fields_next n) }

  -- there is a value for each field
  pub IsFilled-after : (n : ℕ) → total (shapes_after g n) ≡ length (values_after g n)
  IsFilled-after zero = refl
  IsFilled-after (suc n) =
      total_push (shapes_after g n) (shape_next n)
      ∙ omega (arith, IsFilled-after n, length-append (values_after g n) (met_values (names_after g n) (fields_next n)), length-met_values (names_after g n) (fields_next n))

  -- the objects that were looked at, numbered as their fields were met
  abbrev objects_after : ℕ → List PlainObject
  objects_after n = objects_in (shapes_after g n) (values_after g n)

  objects_after-next : (n : ℕ) → objects_after (suc n) ≡ objects_after n ++ object_put n ∷ []
  objects_after-next n =
      ap (λ k. objects_in (shapes_after g n ++ shape_of k (kind_at g (slice_get (names_after g n) n)) ∷ []) (values_after g n ++ met_values (names_after g n) (fields_next n))) (sym (length-met_values (names_after g n) (fields_next n)))
      ∙ objects_in-push (shapes_after g n) (values_after g n) (object_put n) (IsFilled-after n)

  -- later names begin with earlier ones
  names_after-begins : (n more : ℕ) → IsBeginning (names_after g n) (names_after g (more + n))
  names_after-begins n zero k a is = let none : (0 + n) ≡ n = omega arith in subst (λ m. slice_get (names_after g m) k ≡ Some a) (sym none) is
  names_after-begins n (suc more) k a is =
      let next : (suc more + n) ≡ suc (more + n) = omega arith in
      subst (λ m. slice_get (names_after g m) k ≡ Some a) (sym next)
      (with_values-keeps (names_after g (more + n)) (fields_next (more + n)) k a (names_after-begins n more k a is))

  -- Once all names were looked at

  module _ (n : ℕ) (done : length (names_after g n) ≡ n) where
    -- the names from a number of looks on to the last
    begins : (k : ℕ) → k ≤ n → IsBeginning (names_after g k) (names_after g n)
    begins k early = let sum : (n - k) + k ≡ n = omega (arith, early) in subst (λ m. IsBeginning (names_after g k) (names_after g m)) sum (names_after-begins k (n - k))

    -- before that there was always a further name
    further : (k : ℕ) → k < n → k < length (names_after g k)
    further k early = elim (cases_lt k (length (names_after g k))) [
      | inl more ↦ more
      | inr no_more ↦
          let sum : (n - k) + k ≡ n = omega (arith, early) in
          let same : names_after g n ≡ names_after g k = ap (names_after g) (sym sum) ∙ names_after-more g k (n - k) no_more in
          absurd (omega (arith, early, no_more, done, ap length same))
    ]

    -- an object of the dump
    abbrev object_of : ℕ → PlainObject
    object_of a = numbered_object g (names_after g n) a

    object_next : (k a : ℕ) → k < n → slice_get (names_after g k) k ≡ Some a → object_put k ≡ object_of a
    object_next k a early is =
        let made : List Value → PlainObject = λ l. record { raw = kind_at g (slice_get (names_after g k) k); fields = l } in
        ap made (met_values-all (names_after g n) (IsOnce-names_after g n) (names_after g k) (fields_next k) (begins (suc k) (omega (arith, early))))
        ∙ ap (λ (o : Option ℕ). let d : PlainObject = record { raw = kind_at g o; fields = map (numbered_value (names_after g n)) (values_at g o) } in d) is

    objects_after-are : (k : ℕ) → k ≤ n → objects_after k ≡ map object_of (take k (names_after g n))
    objects_after-are zero early = refl
    objects_after-are (suc k) early =
        let less : k < n = omega (arith, early) in
        let a : ℕ = get_or (names_after g k) k 0 in
        let there : slice_get (names_after g k) k ≡ Some a = slice_get-get_or (names_after g k) k 0 (further k less) in
        objects_after-next k
        ∙ ap (λ l. l ++ object_put k ∷ []) (objects_after-are k (omega (arith, early)))
        ∙ ap (λ o. map object_of (take k (names_after g n)) ++ o ∷ []) (object_next k a less there)
        ∙ sym (map-append object_of (take k (names_after g n)) (a ∷ []))
        ∙ ap (map object_of) (sym (take-next k (names_after g n) a (begins k (omega (arith, early)) k a there)))

    roots_after-are : met_roots [] (roots_of g) ≡ map (numbered_root (names_after g n)) (roots_of g)
    roots_after-are = met_roots-all (names_after g n) (IsOnce-names_after g n) [] (roots_of g) (begins 0 (omega arith))

    -- what is stored is the dump
    pub flat_after-dump : graph_in (flat_after g n) ≡ dump_by g (names_after g n)
    flat_after-dump =
        ap (λ (r : List (RootId × Value)). let d : GraphState = record { roots = r; objects = objects_after n } in d) roots_after-are
        ∙ ap (λ (o : List PlainObject). let d : GraphState = record { roots = map (numbered_root (names_after g n)) (roots_of g); objects = o } in d)
        (objects_after-are n (omega arith) ∙ ap (map object_of) (ap (λ k. take k (names_after g n)) (sym done) ∙ take-all (names_after g n)))

  -- Numbered breadth first

  met_after-flat : (n : ℕ) → met_after (length (names_after g 0)) (values_after g n) ≡ length (names_after g n)
  met_after-flat zero = refl
  met_after-flat (suc n) =
      met_after-append (length (names_after g 0)) (values_after g n) (met_values (names_after g n) (fields_next n))
      ∙ ap (λ m. met_after m (met_values (names_after g n) (fields_next n))) (met_after-flat n)
      ∙ met_after-values (names_after g n) (fields_next n)

  AreNumbered-flat : (n : ℕ) → AreNumbered (length (names_after g 0)) (values_after g n)
  AreNumbered-flat zero = tt
  AreNumbered-flat (suc n) =
      AreNumbered-append (length (names_after g 0)) (values_after g n) (met_values (names_after g n) (fields_next n)) (AreNumbered-flat n)
      (subst (λ m. AreNumbered m (met_values (names_after g n) (fields_next n))) (sym (met_after-flat n)) (AreNumbered-values (names_after g n) (fields_next n)))

  length-shapes_after : (n : ℕ) → length (shapes_after g n) ≡ n
  length-shapes_after zero = refl
  length-shapes_after (suc n) = length_push (shapes_after g n) (shape_next n) ∙ omega (arith, length-shapes_after n)

  length-objects_after : (n : ℕ) → length (objects_after n) ≡ n
  length-objects_after n = length-objects_in (shapes_after g n) (values_after g n) ∙ length-shapes_after n

  flat_objects_after : (n : ℕ) → flat_map (λ object. object.fields) (objects_after n) ≡ values_after g n
  flat_objects_after n = flat_objects_in (shapes_after g n) (values_after g n) (IsFilled-after n)

  module _ (n : ℕ) (done : length (names_after g n) ≡ n) where
    met_before : (k : ℕ) → k ≤ n → AreMetBefore 0 (length (names_after g 0)) (objects_after k)
    met_before zero early = tt
    met_before (suc k) early =
        let met : 0 + length (objects_after k) < met_after (length (names_after g 0)) (flat_map (λ object. object.fields) (objects_after k)) =
        omega (arith, length-objects_after k, ap (met_after (length (names_after g 0))) (flat_objects_after k), met_after-flat k, further n done k (omega (arith, early))) in
        subst (AreMetBefore 0 (length (names_after g 0))) (sym (objects_after-next k))
        (AreMetBefore-push 0 (length (names_after g 0)) (objects_after k) (object_put k) (met_before k (omega (arith, early))) met)

    root_values-met : root_values (met_roots [] (roots_of g)) ≡ met_values [] (held_values g)
    root_values-met = root_values-met_roots [] (roots_of g)

    values_of-flat : values_of (graph_in (flat_after g n)) ≡ met_values [] (held_values g) ++ values_after g n
    values_of-flat = ap (λ l. l ++ flat_map (λ object. object.fields) (objects_after n)) root_values-met ∙ ap (λ l. met_values [] (held_values g) ++ l) (flat_objects_after n)

    first_met : met_after 0 (met_values [] (held_values g)) ≡ length (names_after g 0)
    first_met = met_after-values [] (held_values g)

    pub flat-numbered : AreNumbered 0 (values_of (graph_in (flat_after g n)))
    flat-numbered =
        subst (AreNumbered 0) (sym values_of-flat)
        (AreNumbered-append 0 (met_values [] (held_values g)) (values_after g n) (AreNumbered-values [] (held_values g))
        (subst (λ m. AreNumbered m (values_after g n)) (sym first_met) (AreNumbered-flat n)))

    pub flat-met_before : AreMetBefore 0 (met_after 0 (root_values (met_roots [] (roots_of g)))) (objects_after n)
    flat-met_before = subst (λ m. AreMetBefore 0 m (objects_after n)) (sym (ap (met_after 0) root_values-met ∙ first_met)) (met_before n (omega arith))

    pub flat-all_met : met_after 0 (values_of (graph_in (flat_after g n))) ≡ length (objects_after n)
    flat-all_met =
        ap (met_after 0) values_of-flat
        ∙ met_after-append 0 (met_values [] (held_values g)) (values_after g n)
        ∙ ap (λ m. met_after m (values_after g n)) first_met
        ∙ met_after-flat n ∙ done ∙ sym (length-objects_after n)

-- Roots in order, within the limits

pub AllByRecursion-members : {X : Type 0} (P : X → Type 0) (xs : List X) → ((x : X) → Member x xs → P x) → AllByRecursion P xs
AllByRecursion-members P [] each = tt
AllByRecursion-members P (x ∷ xs) each = (each x (inl refl), AllByRecursion-members P xs (λ y m. each y (inr m)))

RootsRise-push : (last : Option RootId) (xs : List (RootId × Value)) (entry : RootId × Value) → RootsRise last xs → IsRootAfter last entry.0 → ((x : RootId × Value) → Member x xs → IsRootBefore x.0 entry.0) → RootsRise last (xs ++ entry ∷ [])
RootsRise-push last [] entry rise after before = (after, tt)
RootsRise-push last (x ∷ xs) entry rise after before = (rise.0, RootsRise-push (Some x.0) xs entry rise.1 (before x (inl refl)) (λ y m. before y (inr m)))

RootsRise-root : (xs : List (RootId × Value)) (r : RootId) (v : Value) → RootsRise None xs → ((x : RootId × Value) → Member x xs → IsRootBefore x.0 r) → RootsRise None (xs ++ filled_root r v)
RootsRise-root xs r Nil rise before = subst (RootsRise None) (sym (append-nil xs)) rise
RootsRise-root xs r (Int n) rise before = RootsRise-push None xs (r, Int n) rise tt before
RootsRise-root xs r (Ref a) rise before = RootsRise-push None xs (r, Ref a) rise tt before

RootsRise-map : (names : List ℕ) (last : Option RootId) (xs : List (RootId × Value)) → RootsRise last xs → RootsRise last (map (numbered_root names) xs)
RootsRise-map names last [] rise = tt
RootsRise-map names last (x ∷ xs) rise = (rise.0, RootsRise-map names (Some x.0) xs rise.1)

module _ (held : RootId → Value) where
  -- an entry's root is of an earlier owner, or of this owner with an earlier slot
  within_slots : (owner slots : ℕ) (entry : RootId × Value) → Member entry (filled_slots held owner slots) → (entry.0.owner ≡ owner) × (entry.0.slot < slots)
  within_slots owner zero entry m = absurd m
  within_slots owner (suc slots) entry m = elim (Member-either entry (filled_slots held owner slots) (filled_root (root_named owner slots) (held (root_named owner slots))) m) [
    | inl before ↦ let at = within_slots owner slots entry before in (at.0, omega (arith, at.1))
    | inr last ↦
        let is = Member-filled_root (root_named owner slots) (held (root_named owner slots)) entry last in
        (ap (λ (r : RootId). r.owner) is.0, let slot : entry.0.slot ≡ slots = ap (λ (r : RootId). r.slot) is.0 in omega (arith, slot))
  ]

  within_roots : (slots owners : ℕ) (entry : RootId × Value) → Member entry (filled_roots held slots owners) → (entry.0.owner < owners) × (entry.0.slot < slots)
  within_roots slots zero entry m = absurd m
  within_roots slots (suc owners) entry m = elim (Member-either entry (filled_roots held slots owners) (filled_slots held owners slots) m) [
    | inl before ↦ let at = within_roots slots owners entry before in (omega (arith, at.0), at.1)
    | inr last ↦ let at = within_slots owners slots entry last in (omega (arith, at.0), at.1)
  ]

  -- one more owner's roots come after the others
  rise_slots : (all owner slots : ℕ) → RootsRise None (filled_roots held all owner) → RootsRise None (filled_roots held all owner ++ filled_slots held owner slots)
  rise_slots all owner zero rise = subst (RootsRise None) (sym (append-nil (filled_roots held all owner))) rise
  rise_slots all owner (suc slots) rise =
      subst (RootsRise None) (append_assoc (filled_roots held all owner) (filled_slots held owner slots) (filled_root (root_named owner slots) (held (root_named owner slots))))
      (RootsRise-root (filled_roots held all owner ++ filled_slots held owner slots) (root_named owner slots) (held (root_named owner slots)) (rise_slots all owner slots rise)
      (λ entry m. elim (Member-either entry (filled_roots held all owner) (filled_slots held owner slots) m) [
        | inl before ↦ inl (within_roots all owner entry before).0
        | inr last ↦ inr (within_slots owner slots entry last)
      ]))

  pub rise_roots : (slots owners : ℕ) → RootsRise None (filled_roots held slots owners)
  rise_roots slots zero = tt
  rise_roots slots (suc owners) = rise_slots slots owners slots (rise_roots slots owners)

-- what can be told of a value stays when it is numbered
IsTold-numbered : (g : Graph) (names : List ℕ) (v : Value) → IsTellable g v → IsTold (numbered_value names v)
IsTold-numbered g names Nil told = tt
IsTold-numbered g names (Int n) told = told
IsTold-numbered g names (Ref a) told = tt

-- and what is no reference is none
unreferring-numbered : (names : List ℕ) (v : Value) → IsUnreferring v → IsUnreferring (numbered_value names v)
unreferring-numbered names Nil plain = plain
unreferring-numbered names (Int n) plain = plain
unreferring-numbered names (Ref a) plain = plain

filled-numbered : (names : List ℕ) (v : Value) → v ≢ Nil → numbered_value names v ≢ Nil
filled-numbered names Nil filled = λ e. filled refl
filled-numbered names (Int n) filled = filled
filled-numbered names (Ref a) filled = λ e. cc

module _ (g : Graph) (limit : ℕ) (d : IsDumpable limit g) where
  pub IsDumpable-reaches : ReachesObjectsBelow limit g
  IsDumpable-reaches = reaches_objects limit g d.names d.roots d.fields

  roots_told : (names : List ℕ) → AllByRecursion IsRootTold (map (numbered_root names) (roots_of g))
  roots_told names =
      AllByRecursion-members IsRootTold (map (numbered_root names) (roots_of g)) (λ entry m.
      let from = Member-map_back (numbered_root names) entry (roots_of g) m in
      let held = entry_of_roots (root_value g) g.slots g.owners from.0 from.1 in
      let at = within_roots (root_value g) g.slots g.owners from.0 from.1 in
      let told : IsTellable g from.0.1 = subst (IsTellable g) (sym held.0) (d.roots from.0.0) in
      subst IsRootTold from.2 (omega (arith, at.0, d.owners), omega (arith, at.1, d.slots), filled-numbered names from.0.1 held.1, IsTold-numbered g names from.0.1 told))

  object_told : (names : List ℕ) (a : ℕ) (o : Option (List Value)) → g.fields a ≡ o → IsObjectTold (record { raw = g.raw a; fields = map (numbered_value names) (values_in o) })
  object_told names a None is = record { few = omega arith; told = tt; raw = λ raw. tt }
  object_told names a (Some fields) is = record {
    few = omega (arith, length-map fields (numbered_value names), d.counts a fields is);
    told = AllByRecursion-members IsTold (map (numbered_value names) fields) (λ v m.
        let from = Member-map_back (numbered_value names) v fields m in
        let at = place_of_Member from.0 fields from.1 in
        subst IsTold from.2 (IsTold-numbered g names from.0 (d.fields a at.0 fields from.0 is at.1)));
    raw = λ raw. AllByRecursion-members IsUnreferring (map (numbered_value names) fields) (λ v m.
        let from = Member-map_back (numbered_value names) v fields m in
        let at = place_of_Member from.0 fields from.1 in
        subst IsUnreferring from.2 (unreferring-numbered names from.0 (d.raw a at.0 fields from.0 raw is at.1)));
  }

  objects_told : (names these : List ℕ) → AllByRecursion IsObjectTold (map (numbered_object g names) these)
  objects_told names [] = tt
  objects_told names (a ∷ these) = (object_told names a (g.fields a) refl, objects_told names these)

  module _ (n : ℕ) (done : length (names_after g n) ≡ n) (few : n ≤ limit) where
    -- what is stored once all names were looked at is a graph
    pub IsGraph-flat_after : IsGraph (graph_in (flat_after g n))
    IsGraph-flat_after = record {
      roots = subst (λ (s : GraphState). AllByRecursion IsRootTold s.roots) (sym (flat_after-dump g n done)) (roots_told (names_after g n));
      roots_rise = subst (λ (s : GraphState). RootsRise None s.roots) (sym (flat_after-dump g n done)) (RootsRise-map (names_after g n) None (roots_of g) (rise_roots (root_value g) g.slots g.owners));
      objects = subst (λ (s : GraphState). AllByRecursion IsObjectTold s.objects) (sym (flat_after-dump g n done)) (objects_told (names_after g n) (names_after g n));
      few_objects = omega (arith, length-objects_after g n, few, d.few);
      numbered = flat-numbered g n done;
      met_before = flat-met_before g n done;
      all_met = flat-all_met g n done;
    }

    -- and the dump
    pub flat_after-below : graph_in (flat_after g n) ≡ dump_below limit g
    flat_after-below =
        let sum : (limit - n) + n ≡ limit = omega (arith, few) in
        flat_after-dump g n done
        ∙ ap (dump_by g) (sym (names_after-more g n (limit - n) (omega (arith, done))) ∙ ap (names_after g) sum)
