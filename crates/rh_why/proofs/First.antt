-- The holder of the first reference to each object.
use Rattle.std.proofs.Common.{◌≡◌, ℕ, zero, suc, ◌+◌, ◌<◌, ◌≤◌, List, [], ◌∷◌, ◌++◌, length, Some, refl, sym, ap, subst, inl, inr, ◌∙◌, arith}
use Rattle.std.specs.Prelude.{◌⊎◌, Contains, slice_get, slice_index_or}
use Rattle.std.specs.List.{flat_map}
use Rattle.std.proofs.lemmas.List.Elements.{Contains-append_right}
use Rattle.std.proofs.lemmas.Option.{same_Some}
use Rattle.rh_layout.specs.declared.value.Value.{Value}
use Rattle.rh_layout.specs.declared.value.Value.TheVariants.{Ref}
use Rattle.rh_layout.specs.declared.command.RootId.{RootId}
use Rattle.rh_model.specs.Plain.{PlainObject}
use Rattle.rh_dump.specs.Dump.{GraphState, IsGraph, AreMetBefore, AreNumbered, met_after, met_with, root_values, values_of}
use Rattle.rh_why.specs.declared.holder.Holder.{Holder}
use Rattle.rh_why.specs.declared.holder.Holder.TheVariants.{Root, Field}
use Rattle.rh_why.specs.Path.{first_holders, with_fields, with_objects, with_roots, with_value}
use Rattle.rh_why.specs.Way.{Holds}
use Rattle.rh_why.proofs.MetObjects.{Found, Good, Keeps, found_value, good_more, good_none, good_value, keeps_value, length_value, longer_value, rank}

numbered_parts : (met : ℕ) (xs ys : List Value) → AreNumbered met (xs ++ ys) → AreNumbered met xs × AreNumbered (met_after met xs) ys
numbered_parts met [] ys all = (tt, all)
numbered_parts met (x ∷ xs) ys all = let p = numbered_parts (met_with met x) xs ys all.1 in ((all.0, p.0), p.1)

met_after-append : (met : ℕ) (xs ys : List Value) → met_after met (xs ++ ys) ≡ met_after (met_after met xs) ys
met_after-append met [] ys = refl
met_after-append met (x ∷ xs) ys = met_after-append (met_with met x) xs ys

abbrev joined : List PlainObject → List Value
joined objects = flat_map (λ object. object.fields) objects

module _ (g : GraphState) where
  -- ---- the fields of an object

  abbrev HeldFields : ℕ → ℕ → List Value → Type 0
  HeldFields n f vs = (i t : ℕ) → slice_get vs i ≡ Some (Ref t) → Holds g (Field n (f + i)) t

  held_first : (n f : ℕ) (v : Value) (vs : List Value) → HeldFields n f (v ∷ vs) → (t : ℕ) → v ≡ Ref t → Holds g (Field n f) t
  held_first n f v vs held t is = let same : f + 0 ≡ f = omega arith in subst (λ (k : ℕ). Holds g (Field n k) t) same (held 0 t (ap (λ (w : Value). Some w) is))

  held_others : (n f : ℕ) (v : Value) (vs : List Value) → HeldFields n f (v ∷ vs) → HeldFields n (f + 1) vs
  held_others n f v vs held i t is = let same : f + suc i ≡ (f + 1) + i = omega arith in subst (λ (k : ℕ). Holds g (Field n k) t) same (held (suc i) t is)

  good_fields : (hs : List Holder) (n f : ℕ) (vs : List Value) → Good g (suc n) hs → n < length hs → HeldFields n f vs → Good g (suc n) (with_fields hs n f vs)
  good_fields hs n f [] good below held = good
  good_fields hs n f (v ∷ vs) good below held =
      let x = Field n f in
      let next = good_value g (suc n) hs x good refl v (omega (arith, below)) (held_first n f v vs held) in
      let longer = longer_value g (suc n) hs x good refl v in
      good_fields (with_value hs x v) n (f + 1) vs next (omega (arith, below, longer)) (held_others n f v vs held)

  keeps_fields : (hs : List Holder) (n f : ℕ) (vs : List Value) → Good g (suc n) hs → n < length hs → HeldFields n f vs → Keeps hs (with_fields hs n f vs)
  keeps_fields hs n f [] good below held j h is = is
  keeps_fields hs n f (v ∷ vs) good below held j h is =
      let x = Field n f in
      let next = good_value g (suc n) hs x good refl v (omega (arith, below)) (held_first n f v vs held) in
      let longer = longer_value g (suc n) hs x good refl v in
      keeps_fields (with_value hs x v) n (f + 1) vs next (omega (arith, below, longer)) (held_others n f v vs held) j h (keeps_value g (suc n) hs x good refl v j h is)

  length_fields : (hs : List Holder) (n f : ℕ) (vs : List Value) → Good g (suc n) hs → n < length hs → HeldFields n f vs → AreNumbered (length hs) vs → length (with_fields hs n f vs) ≡ met_after (length hs) vs
  length_fields hs n f [] good below held numbered = refl
  length_fields hs n f (v ∷ vs) good below held numbered =
      let x = Field n f in
      let next = good_value g (suc n) hs x good refl v (omega (arith, below)) (held_first n f v vs held) in
      let longer = longer_value g (suc n) hs x good refl v in
      let long = length_value g (suc n) hs x good refl v numbered.0 in
      length_fields (with_value hs x v) n (f + 1) vs next (omega (arith, below, longer)) (held_others n f v vs held) (subst (λ (m : ℕ). AreNumbered m vs) (sym long) numbered.1)
      ∙ ap (λ (m : ℕ). met_after m vs) long

  found_fields : (hs : List Holder) (n f : ℕ) (vs : List Value) → Good g (suc n) hs → n < length hs → HeldFields n f vs → AreNumbered (length hs) vs → (i t : ℕ) → slice_get vs i ≡ Some (Ref t) → Found (with_fields hs n f vs) (suc n) t
  found_fields hs n f [] good below held numbered i t is = absurd cc
  found_fields hs n f (v ∷ vs) good below held numbered zero t is =
      let x = Field n f in
      let next = good_value g (suc n) hs x good refl v (omega (arith, below)) (held_first n f v vs held) in
      let longer = longer_value g (suc n) hs x good refl v in
      let now = found_value g (suc n) hs x good refl v t numbered.0 (same_Some v (Ref t) is) in
      (now.0, keeps_fields (with_value hs x v) n (f + 1) vs next (omega (arith, below, longer)) (held_others n f v vs held) t now.0 now.1, now.2)
  found_fields hs n f (v ∷ vs) good below held numbered (suc i) t is =
      let x = Field n f in
      let next = good_value g (suc n) hs x good refl v (omega (arith, below)) (held_first n f v vs held) in
      let longer = longer_value g (suc n) hs x good refl v in
      let long = length_value g (suc n) hs x good refl v numbered.0 in
      found_fields (with_value hs x v) n (f + 1) vs next (omega (arith, below, longer)) (held_others n f v vs held) (subst (λ (m : ℕ). AreNumbered m vs) (sym long) numbered.1) i t is

  -- ---- objects

  abbrev TheObjects : ℕ → List PlainObject → Type 0
  TheObjects n os = (i : ℕ) (o : PlainObject) → slice_get os i ≡ Some o → slice_get g.objects (n + i) ≡ Some o

  record Ready (n : ℕ) (hs : List Holder) (os : List PlainObject) : Type 0 where
    good : Good g n hs
    objects : TheObjects n os
    numbered : AreNumbered (length hs) (joined os)
    before : AreMetBefore n (length hs) os

  module _ (n : ℕ) (hs : List Holder) (o : PlainObject) (os : List PlainObject) (ready : Ready n hs (o ∷ os)) where
    own_good : Good g (suc n) hs
    own_good = good_more g n (suc n) hs (omega arith) ready.good

    own_held : HeldFields n 0 o.fields
    own_held i t is =
        let at : n + 0 ≡ n = omega arith in
        let field : i ≡ 0 + i = omega arith in
        (o, subst (λ (k : ℕ). slice_get g.objects k ≡ Some o) at (ready.objects 0 o refl), subst (λ (k : ℕ). slice_get o.fields k ≡ Some (Ref t)) field is)

    own_numbered : AreNumbered (length hs) o.fields
    own_numbered = (numbered_parts (length hs) o.fields (joined os) ready.numbered).0

    own_next : List Holder
    own_next = with_fields hs n 0 o.fields

    own_long : length (with_fields hs n 0 o.fields) ≡ met_after (length hs) o.fields
    own_long = length_fields hs n 0 o.fields own_good ready.before.0 own_held own_numbered

    next_ready : Ready (n + 1) (with_fields hs n 0 o.fields) os
    next_ready = record {
      good = let next : suc n ≡ n + 1 = omega arith in subst (λ (m : ℕ). Good g m (with_fields hs n 0 o.fields)) next (good_fields hs n 0 o.fields own_good ready.before.0 own_held);
      objects = λ i other is. let at : n + suc i ≡ (n + 1) + i = omega arith in subst (λ (k : ℕ). slice_get g.objects k ≡ Some other) at (ready.objects (suc i) other is);
      numbered = subst (λ (m : ℕ). AreNumbered m (joined os)) (sym own_long) (numbered_parts (length hs) o.fields (joined os) ready.numbered).1;
      before = subst (λ (m : ℕ). AreMetBefore (n + 1) m os) (sym own_long) ready.before.1;
    }

  good_objects : (hs : List Holder) (n : ℕ) (os : List PlainObject) → Ready n hs os → Good g (n + length os) (with_objects hs n os)
  good_objects hs n [] ready = good_more g n (n + 0) hs (omega arith) ready.good
  good_objects hs n (o ∷ os) ready =
      let c : (n + 1) + length os ≤ n + length (o ∷ os) = omega arith in
      let next = with_fields hs n 0 o.fields in
      good_more g ((n + 1) + length os) (n + length (o ∷ os)) (with_objects next (n + 1) os) c (good_objects next (n + 1) os (next_ready n hs o os ready))

  keeps_objects : (hs : List Holder) (n : ℕ) (os : List PlainObject) → Ready n hs os → Keeps hs (with_objects hs n os)
  keeps_objects hs n [] ready j h is = is
  keeps_objects hs n (o ∷ os) ready j h is =
      let next = with_fields hs n 0 o.fields in
      keeps_objects next (n + 1) os (next_ready n hs o os ready) j h (keeps_fields hs n 0 o.fields (own_good n hs o os ready) ready.before.0 (own_held n hs o os ready) j h is)

  length_objects : (hs : List Holder) (n : ℕ) (os : List PlainObject) → Ready n hs os → length (with_objects hs n os) ≡ met_after (length hs) (joined os)
  length_objects hs n [] ready = refl
  length_objects hs n (o ∷ os) ready =
      length_objects (with_fields hs n 0 o.fields) (n + 1) os (next_ready n hs o os ready)
      ∙ ap (λ (m : ℕ). met_after m (joined os)) (own_long n hs o os ready)
      ∙ sym (met_after-append (length hs) o.fields (joined os))

  found_objects : (hs : List Holder) (n : ℕ) (os : List PlainObject) → Ready n hs os → (i f t : ℕ) (p : PlainObject) → slice_get os i ≡ Some p → slice_get p.fields f ≡ Some (Ref t) → Found (with_objects hs n os) (suc (n + i)) t
  found_objects hs n [] ready i f t p at is = absurd cc
  found_objects hs n (o ∷ os) ready zero f t p at is =
      let next = with_fields hs n 0 o.fields in
      let own : slice_get o.fields f ≡ Some (Ref t) = subst (λ (q : PlainObject). slice_get q.fields f ≡ Some (Ref t)) (sym (same_Some o p at)) is in
      let now = found_fields hs n 0 o.fields (own_good n hs o os ready) ready.before.0 (own_held n hs o os ready) (own_numbered n hs o os ready) f t own in
      (now.0, keeps_objects next (n + 1) os (next_ready n hs o os ready) t now.0 now.1, omega (arith, now.2))
  found_objects hs n (o ∷ os) ready (suc i) f t p at is =
      let later = found_objects (with_fields hs n 0 o.fields) (n + 1) os (next_ready n hs o os ready) i f t p at is in
      (later.0, later.1, omega (arith, later.2))

  -- ---- roots

  abbrev TheRoots : List (RootId × Value) → Type 0
  TheRoots rs = (r : RootId × Value) → Contains rs r → Contains g.roots r

  first : (r : RootId × Value) (rs : List (RootId × Value)) → Contains (r ∷ rs) r
  first r rs = (0, omega arith, refl)

  held_root : (r : RootId × Value) (rs : List (RootId × Value)) → TheRoots (r ∷ rs) → (t : ℕ) → r.1 ≡ Ref t → Holds g (Root r.0) t
  held_root r rs all t is = subst (λ (v : Value). Contains g.roots (r.0, v)) is (all r (first r rs))

  later_roots : (r : RootId × Value) (rs : List (RootId × Value)) → TheRoots (r ∷ rs) → TheRoots rs
  later_roots r rs all other there = all other (Contains-append_right (r ∷ []) rs other there)

  good_roots : (hs : List Holder) (rs : List (RootId × Value)) → Good g 0 hs → TheRoots rs → Good g 0 (with_roots hs rs)
  good_roots hs [] good all = good
  good_roots hs (r ∷ rs) good all =
      good_roots (with_value hs (Root r.0) r.1) rs (good_value g 0 hs (Root r.0) good refl r.1 (omega arith) (held_root r rs all)) (later_roots r rs all)

  keeps_roots : (hs : List Holder) (rs : List (RootId × Value)) → Good g 0 hs → TheRoots rs → Keeps hs (with_roots hs rs)
  keeps_roots hs [] good all j h is = is
  keeps_roots hs (r ∷ rs) good all j h is =
      keeps_roots (with_value hs (Root r.0) r.1) rs (good_value g 0 hs (Root r.0) good refl r.1 (omega arith) (held_root r rs all)) (later_roots r rs all) j h (keeps_value g 0 hs (Root r.0) good refl r.1 j h is)

  length_roots : (hs : List Holder) (rs : List (RootId × Value)) → Good g 0 hs → TheRoots rs → AreNumbered (length hs) (root_values rs) → length (with_roots hs rs) ≡ met_after (length hs) (root_values rs)
  length_roots hs [] good all numbered = refl
  length_roots hs (r ∷ rs) good all numbered =
      let long = length_value g 0 hs (Root r.0) good refl r.1 numbered.0 in
      length_roots (with_value hs (Root r.0) r.1) rs (good_value g 0 hs (Root r.0) good refl r.1 (omega arith) (held_root r rs all)) (later_roots r rs all) (subst (λ (m : ℕ). AreNumbered m (root_values rs)) (sym long) numbered.1)
      ∙ ap (λ (m : ℕ). met_after m (root_values rs)) long

  found_root_at : (hs : List Holder) (rs : List (RootId × Value)) → Good g 0 hs → TheRoots rs → AreNumbered (length hs) (root_values rs) → (k t : ℕ) (root : RootId) → k < length rs → slice_index_or rs k (root, Ref t) ≡ (root, Ref t) → Found (with_roots hs rs) 0 t
  found_root_at hs [] good all numbered k t root within is = absurd (omega (arith, within))
  found_root_at hs (r ∷ rs) good all numbered zero t root within is =
      let x = Root r.0 in
      let next = good_value g 0 hs x good refl r.1 (omega arith) (held_root r rs all) in
      let now = found_value g 0 hs x good refl r.1 t numbered.0 (ap (λ (p : RootId × Value). p.1) is) in
      (now.0, keeps_roots (with_value hs x r.1) rs next (later_roots r rs all) t now.0 now.1, now.2)
  found_root_at hs (r ∷ rs) good all numbered (suc k) t root within is =
      let long = length_value g 0 hs (Root r.0) good refl r.1 numbered.0 in
      found_root_at (with_value hs (Root r.0) r.1) rs (good_value g 0 hs (Root r.0) good refl r.1 (omega arith) (held_root r rs all)) (later_roots r rs all) (subst (λ (m : ℕ). AreNumbered m (root_values rs)) (sym long) numbered.1) k t root (omega (arith, within)) is

  -- ---- the whole graph

  module _ (is : IsGraph g) where
    parts : AreNumbered 0 (root_values g.roots) × AreNumbered (met_after 0 (root_values g.roots)) (joined g.objects)
    parts = numbered_parts 0 (root_values g.roots) (joined g.objects) is.numbered

    the_roots : TheRoots g.roots
    the_roots r there = there

    roots_long : length (with_roots [] g.roots) ≡ met_after 0 (root_values g.roots)
    roots_long = length_roots [] g.roots (good_none g) the_roots parts.0

    begun : Ready 0 (with_roots [] g.roots) g.objects
    begun = record {
      good = good_roots [] g.roots (good_none g) the_roots;
      objects = λ i o at. let same : i ≡ 0 + i = omega arith in subst (λ (k : ℕ). slice_get g.objects k ≡ Some o) same at;
      numbered = subst (λ (m : ℕ). AreNumbered m (joined g.objects)) (sym roots_long) parts.1;
      before = subst (λ (m : ℕ). AreMetBefore 0 m g.objects) (sym roots_long) is.met_before;
    }

    pub all_good : Good g (0 + length g.objects) (first_holders g)
    all_good = good_objects (with_roots [] g.roots) 0 g.objects begun

    pub all_long : length (first_holders g) ≡ length g.objects
    all_long =
        length_objects (with_roots [] g.roots) 0 g.objects begun
        ∙ ap (λ (m : ℕ). met_after m (joined g.objects)) roots_long
        ∙ sym (met_after-append 0 (root_values g.roots) (joined g.objects)) ∙ is.all_met

    -- whatever holds an object has no lower rank than its first holder
    pub found_all : (h : Holder) (t : ℕ) → Holds g h t → Found (first_holders g) (rank h) t
    found_all (Root root) t held =
        let now = found_root_at [] g.roots (good_none g) the_roots parts.0 held.0 t root held.1 held.2 in
        (now.0, keeps_objects (with_roots [] g.roots) 0 g.objects begun t now.0 now.1, now.2)
    found_all (Field n f) t held =
        let now = found_objects (with_roots [] g.roots) 0 g.objects begun n f t held.0 held.1 held.2 in
        (now.0, now.1, omega (arith, now.2))
