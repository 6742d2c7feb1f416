-- A graph is the dump of the plain heap that it describes.
use Rattle.std.specs.Prelude.{◌≡◌, ◌↔◌, ◌<◌, ◌≤◌, ◌*◌, ℕ, Bool, true, false, nat_lt, if◌then◌else◌, All, List, [], ◌∷◌, length, replicate, slice_get, slice_index_or, slice_set, Option, Some, None, Ok}
use Rattle.std.specs.List.{AllByRecursion}
use Rattle.std.proofs.Common.{refl, sym, ap, subst, ◌∙◌, arith, inl, inr}
use Rattle.std.specs.Option.{option_map}
use Rattle.std.proofs.Math.ListN.{get_or, length-map}
use Rattle.std.proofs.lemmas.Bool.{cases_eq, cases_lt, lt-ltb, and_from}
use Rattle.std.proofs.lemmas.List.{get_or-set_same, get_or-set_other, set_past, get_or_past, length-replicate, get_or-replicate}
use Rattle.std.proofs.lemmas.List.Elements.{All-from_get_or}
use Rattle.std.proofs.lemmas.Option.{slice_get-get_or, slice_get-map, get_or_from_slice_get}
use Rattle.rh_layout.specs.declared.value.Value.{Value}
use Rattle.rh_layout.specs.declared.value.Value.TheVariants.{Nil, Int, Ref}
use Rattle.rh_layout.specs.declared.command.RootId.{RootId}
use Rattle.rh_layout.specs.Root.{has_root, root_position}
use Rattle.rh_model.specs.Graph.{root_value, field_value}
use Rattle.rh_layout.specs.Value.{is_reference}
use Rattle.rh_model.specs.Plain.{PlainObject, PlainHeap, field_lists, kinds, IsPlain, IsStorable, empty_plain, with_root, graph_of}
use Rattle.rh_model.specs.SameGraph.{SameGraph}
use Rattle.rh_text.specs.lemmas.Steps.{ok_is}
use Rattle.rh_dump.specs.Dump.{GraphState, IsTold, IsRootTold, IsUnreferring, IsObjectTold, IsGraph}
use Rattle.rh_dump.specs.Meeting.{IsBelow}
use Rattle.rh_dump.specs.Numbering.{dump_below}
use Rattle.rh_dump.specs.PlainDump.{plain_dump_of, plain_heap_of, with_held}
use Rattle.rh_dump.specs.declared.reading.due.Version.{Version}
use Rattle.rh_dump.specs.texts.Line.{text_in, IsTextOf}
use Rattle.rh_dump.specs.texts.Reading.{graph_of_text}
use Rattle.rh_dump.proofs.numbers.Names.{Member, Member-at}
use Rattle.rh_dump.proofs.numbers.FlatDump.{AllByRecursion-members}
use Rattle.rh_dump.proofs.graphs.PlainDump.{reaches-plain, IsDumpable-plain}
use Rattle.rh_dump.proofs.graphs.SameNumbers.{dump_below-exact}
use Rattle.rh_dump.proofs.graphs.DumpedGraphs.{IsGraph-dump_below}
use Rattle.rh_dump.proofs.texts.ReadIsSpelled.{graph_within-means}
use Rattle.rh_dump.proofs.described.HeldRoots.{IsThere, AreRoots, owners-with_held, slots-with_held, objects-with_held, root_count-with_held, roots_of-with_held}
use Rattle.rh_dump.proofs.described.NumberedNames.{IsBelow-root, IsBelow-field, dump_below-graph}

each_of : {X : Type 0} (P : X → Type 0) (xs : List X) → AllByRecursion P xs → (x : X) → Member x xs → P x
each_of P [] all x m = absurd m
each_of P (y ∷ ys) all x (inl is) = subst P is all.0
each_of P (y ∷ ys) all x (inr m) = each_of P ys all.1 x m

-- what can be told, and refers to one of the objects, may be stored
storable : (objects : List PlainObject) (v : Value) → IsTold v → IsBelow (length objects) v → IsStorable objects v
storable objects Nil told below = tt
storable objects (Int n) told below = told
storable objects (Ref a) told below = below

-- roots that may be stored still may once one is given another
storable_with : (objects : List PlainObject) (values : List Value) (place : ℕ) (v : Value) → IsStorable objects v → ((i : ℕ) → IsStorable objects (slice_index_or values i Nil))
    → (i : ℕ) → IsStorable objects (slice_index_or (slice_set values place v) i Nil)
storable_with objects values place v stored all i = elim (cases_lt place (length values)) [
  | inr past ↦ subst (λ l. IsStorable objects (slice_index_or l i Nil)) (sym (set_past values place v (omega (arith, past)))) (all i)
  | inl inside ↦ elim (cases_eq i place) [
    | inl same ↦
        subst (λ j. IsStorable objects (slice_index_or (slice_set values place v) j Nil)) (sym same)
        (subst (IsStorable objects) (sym (get_or-set_same values place v Nil inside)) stored)
    | inr other ↦ subst (IsStorable objects) (sym (get_or-set_other values place i v Nil other)) (all i)
  ]
]

storable_held : (objects : List PlainObject) (p : PlainHeap) (xs : List (RootId × Value)) → ((x : RootId × Value) → Member x xs → IsStorable objects x.1) → ((i : ℕ) → IsStorable objects (slice_index_or p.roots i Nil))
    → (i : ℕ) → IsStorable objects (slice_index_or (with_held p xs).roots i Nil)
storable_held objects p [] each all i = all i
storable_held objects p (x ∷ xs) each all i =
    storable_held objects (with_root p x.0 x.1) xs (λ y m. each y (inr m)) (storable_with objects p.roots (root_position p.slots x.0) x.1 (each x (inl refl)) all) i

-- what a field holds may be stored, where what each field of each object holds may be
field_by : (P : Value → Type 0) (objects : List PlainObject) → P Nil → (a f : ℕ) → ((object : PlainObject) → slice_get objects a ≡ Some object → (v : Value) → Member v object.fields → P v) → P (field_value (slice_get (field_lists objects) a) f)
field_by P objects nil a f each = by (slice_get objects a) refl (slice_get-map (λ (o : PlainObject). o.fields) objects a)
  where
    by : (o : Option PlainObject) → slice_get objects a ≡ o → slice_get (field_lists objects) a ≡ option_map (λ (o : PlainObject). o.fields) (slice_get objects a) → P (field_value (slice_get (field_lists objects) a) f)
    by None none is = subst (λ (o : Option (List Value)). P (field_value o f)) (sym (is ∙ ap (option_map (λ (o : PlainObject). o.fields)) none)) nil
    by (Some object) there is =
        let fields = object.fields in
        subst (λ (o : Option (List Value)). P (field_value o f)) (sym (is ∙ ap (option_map (λ (o : PlainObject). o.fields)) there)) (elim (cases_lt f (length fields)) [
          | inl inside ↦ each object there (slice_index_or fields f Nil) (Member-at (slice_index_or fields f Nil) fields f (slice_get-get_or fields f Nil inside))
          | inr past ↦ subst P (sym (get_or_past fields f Nil (omega (arith, past)))) nil
        ])

storable_field : (objects : List PlainObject) → ((object : PlainObject) (v : Value) → Member object objects → Member v object.fields → IsStorable objects v) → (a f : ℕ) → IsStorable objects (field_value (slice_get (field_lists objects) a) f)
storable_field objects each a f = field_by (IsStorable objects) objects tt a f (λ object at v m. each object v (Member-at object objects a at) m)

-- what a field of a raw object holds is no reference
unreferring_field : (objects : List PlainObject) → AllByRecursion IsObjectTold objects → (a f : ℕ) → slice_index_or (kinds objects) a false ≡ true → is_reference (field_value (slice_get (field_lists objects) a) f) ≡ false
unreferring_field objects told a f raw =
    field_by IsUnreferring objects refl a f (λ object at v m.
    let kind : slice_get (kinds objects) a ≡ Some object.raw = slice_get-map (λ (o : PlainObject). o.raw) objects a ∙ ap (option_map (λ (o : PlainObject). o.raw)) at in
    let is : object.raw ≡ true = sym (get_or_from_slice_get (kinds objects) a object.raw false kind) ∙ raw in
    each_of IsUnreferring object.fields ((each_of IsObjectTold objects told object (Member-at object objects a at)).raw is) v m)

-- a plain heap with these objects whose roots are nil, of so many owners with so many slots
abbrev bare : ℕ → ℕ → List PlainObject → PlainHeap
bare owners slots objects = record (empty_plain owners slots) { objects = objects }

bare_root : (owners slots : ℕ) (objects : List PlainObject) (i : ℕ) → slice_index_or (bare owners slots objects).roots i Nil ≡ Nil
bare_root owners slots objects i = elim (cases_lt i (owners * slots)) [
  | inl inside ↦ get_or-replicate (owners * slots) i Nil Nil inside
  | inr past ↦ get_or_past (replicate (owners * slots) Nil) i Nil (omega (arith, past, length-replicate (owners * slots) Nil))
]

bare_held : (owners slots : ℕ) (objects : List PlainObject) (r : RootId) → root_value (graph_of (bare owners slots objects)) r ≡ Nil
bare_held owners slots objects r = by (has_root owners slots r)
  where
    by : (t : Bool) → (if t then slice_index_or (replicate (owners * slots) Nil) (root_position slots r) Nil else Nil) ≡ Nil
    by true = bare_root owners slots objects (root_position slots r)
    by false = refl

module _ (owners slots : ℕ) (some_owner : 1 ≤ owners) (few_owners : owners ≤ 16) (some_slot : 1 ≤ slots) (few_slots : slots ≤ 256) (g : GraphState) (is : IsGraph g)
    (inside : (x : RootId × Value) → Member x g.roots → (x.0.owner < owners) × (x.0.slot < slots)) where
  abbrev empty : PlainHeap
  empty = bare owners slots g.objects

  abbrev heap : PlainHeap
  heap = with_held empty g.roots

  told : (x : RootId × Value) → Member x g.roots → IsRootTold x
  told = each_of IsRootTold g.roots is.roots

  are_roots : AreRoots owners slots g.roots
  are_roots = record {
    there = AllByRecursion-members (IsThere owners slots) g.roots (λ x m.
        let at = inside x m in and_from (nat_lt x.0.owner owners) (nat_lt x.0.slot slots) (lt-ltb x.0.owner owners at.0) (lt-ltb x.0.slot slots at.1));
    inside = λ x m. let at = inside x m in (at.0, at.1, (told x m).2);
    rise = is.roots_rise;
  }

  root_storable : (x : RootId × Value) → Member x g.roots → IsStorable g.objects x.1
  root_storable x m = storable g.objects x.1 (told x m).3 (IsBelow-root g is x m)

  field_storable : (object : PlainObject) (v : Value) → Member object g.objects → Member v object.fields → IsStorable g.objects v
  field_storable object v m at =
      let told = each_of IsObjectTold g.objects is.objects object m in
      storable g.objects v (each_of IsTold object.fields told.told v at) (IsBelow-field g is object v m at)

  heap_objects : heap.objects ≡ g.objects
  heap_objects = objects-with_held empty g.roots

  heap_plain : IsPlain heap
  heap_plain = record {
    some_owner = omega (arith, some_owner, owners-with_held empty g.roots);
    few_owners = omega (arith, few_owners, owners-with_held empty g.roots);
    some_slot = omega (arith, some_slot, slots-with_held empty g.roots);
    few_slots = omega (arith, few_slots, slots-with_held empty g.roots);
    root_count =
        root_count-with_held empty g.roots ∙ length-replicate (owners * slots) Nil
        ∙ ap (λ n. n * slots) (sym (owners-with_held empty g.roots)) ∙ ap (λ n. heap.owners * n) (sym (slots-with_held empty g.roots));
    field_counts = subst (λ objects. All (λ fields. length fields ≤ 4095) (field_lists objects)) (sym heap_objects) few_fields;
    roots = subst (λ objects. (place : ℕ) → IsStorable objects (slice_index_or heap.roots place Nil)) (sym heap_objects)
        (storable_held g.objects empty g.roots root_storable (λ i. subst (IsStorable g.objects) (sym (bare_root owners slots g.objects i)) tt));
    fields = subst (λ objects. (a f : ℕ) → IsStorable objects (field_value (slice_get (field_lists objects) a) f)) (sym heap_objects) (storable_field g.objects field_storable);
    raw = subst (λ objects. (a f : ℕ) → slice_index_or (kinds objects) a false ≡ true → is_reference (field_value (slice_get (field_lists objects) a) f) ≡ false) (sym heap_objects) (unreferring_field g.objects is.objects);
  }
    where
      none : PlainObject
      none = record { raw = false; fields = [] }

      few_fields : All (λ fields. length fields ≤ 4095) (field_lists g.objects)
      few_fields =
          All-from_get_or (λ fields. length fields ≤ 4095) (field_lists g.objects) [] (λ i less.
          let inside : i < length g.objects = omega (arith, less, length-map g.objects (λ (o : PlainObject). o.fields)) in
          let object : PlainObject = get_or g.objects i none in
          let at : slice_get g.objects i ≡ Some object = slice_get-get_or g.objects i none inside in
          let found : slice_get (field_lists g.objects) i ≡ Some object.fields = slice_get-map (λ (o : PlainObject). o.fields) g.objects i ∙ ap (option_map (λ (o : PlainObject). o.fields)) at in
          subst (λ (fields : List Value). length fields ≤ 4095) (sym (get_or_from_slice_get (field_lists g.objects) i object.fields [] found)) (each_of IsObjectTold g.objects is.objects object (Member-at object g.objects i at)).few)

  heap_dump : plain_dump_of heap ≡ g
  heap_dump =
      ap (λ (objects : List PlainObject). dump_below (length objects) (graph_of heap)) heap_objects
      ∙ dump_below-graph g is (graph_of heap)
      (roots_of-with_held empty g.roots (length-replicate (owners * slots) Nil) (bare_held owners slots g.objects) are_roots)
      (λ a. ap (λ objects. slice_get (field_lists objects) a) heap_objects)
      (λ a. ap (λ objects. slice_index_or (kinds objects) a false) heap_objects)

module _ (g : GraphState) (is : IsGraph g) where
  few_owners_and_slots : (x : RootId × Value) → Member x g.roots → (x.0.owner < 16) × (x.0.slot < 256)
  few_owners_and_slots x m = let told = each_of IsRootTold g.roots is.roots x m in (told.0, told.1)

  -- the plain heap that a graph describes is well formed
  pub IsPlain-plain_heap_of : IsPlain (plain_heap_of g)
  unfolding plain_heap_of
  IsPlain-plain_heap_of = heap_plain 16 256 (omega arith) (omega arith) (omega arith) (omega arith) g is few_owners_and_slots

  -- and has the graph as its dump
  pub plain_dump_of-plain_heap_of : plain_dump_of (plain_heap_of g) ≡ g
  unfolding plain_heap_of
  plain_dump_of-plain_heap_of = heap_dump 16 256 (omega arith) (omega arith) (omega arith) (omega arith) g is few_owners_and_slots

  few_objects-plain_heap_of : length (plain_heap_of g).objects ≤ 16777216
  unfolding plain_heap_of
  few_objects-plain_heap_of =
      let same : length (plain_heap_of g).objects ≡ length g.objects = ap length (objects-with_held (bare 16 256 g.objects) g.roots) in
      omega (arith, same, is.few_objects)

-- What every graph keeps is what every dump of a plain heap keeps that isn't too large, and no more.
pub IsGraph-exact : (g : GraphState) → IsGraph g ↔ ((p : PlainHeap) × IsPlain p × (length p.objects ≤ 16777216) × (plain_dump_of p ≡ g))
IsGraph-exact g = (
  λ is. (plain_heap_of g, IsPlain-plain_heap_of g is, few_objects-plain_heap_of g is, plain_dump_of-plain_heap_of g is),
  λ dumped. subst IsGraph dumped.3 (IsGraph-dump_below (graph_of dumped.0) (length dumped.0.objects) (IsDumpable-plain dumped.0 dumped.1 dumped.2)),
)

plain_exact : (p q : PlainHeap) → IsPlain p → IsPlain q → (plain_dump_of p ≡ plain_dump_of q) ↔ SameGraph (graph_of p) (graph_of q)
plain_exact p q first second = dump_below-exact (graph_of p) (graph_of q) (length p.objects) (length q.objects) (reaches-plain p first) (reaches-plain q second)

-- two graphs are equal exactly where they describe the same graph
pub described-exact : (a b : GraphState) → IsGraph a → IsGraph b → (a ≡ b) ↔ SameGraph (graph_of (plain_heap_of a)) (graph_of (plain_heap_of b))
described-exact a b is other =
    let exact = plain_exact (plain_heap_of a) (plain_heap_of b) (IsPlain-plain_heap_of a is) (IsPlain-plain_heap_of b other) in (
      λ same. exact.0 (plain_dump_of-plain_heap_of a is ∙ same ∙ sym (plain_dump_of-plain_heap_of b other)),
      λ alike. sym (plain_dump_of-plain_heap_of a is) ∙ exact.1 alike ∙ plain_dump_of-plain_heap_of b other,
    )

-- and so are two that are read
pub read-exact : (s t : List ℕ) (a b : GraphState) → graph_of_text s ≡ Ok a → graph_of_text t ≡ Ok b → (a ≡ b) ↔ SameGraph (graph_of (plain_heap_of a)) (graph_of (plain_heap_of b))
read-exact s t a b first second = described-exact a b (graph_within-means 268435456 s a first).0 (graph_within-means 268435456 t b second).0

-- and their texts, where these are of one version
pub texts-exact : (v : Version) (s t : List ℕ) (a b : GraphState) → graph_of_text s ≡ Ok a → graph_of_text t ≡ Ok b → s ≡ text_in v a → t ≡ text_in v b → (s ≡ t) ↔ SameGraph (graph_of (plain_heap_of a)) (graph_of (plain_heap_of b))
texts-exact v s t a b first second one other =
    let exact = read-exact s t a b first second in (
      λ same. exact.0 (ok_is a b (sym first ∙ ap graph_of_text same ∙ second)),
      λ alike. one ∙ ap (text_in v) (exact.1 alike) ∙ sym other,
    )

-- the dump of a plain heap describes the same graph
pub described-back : (p : PlainHeap) → IsPlain p → length p.objects ≤ 16777216 → SameGraph (graph_of p) (graph_of (plain_heap_of (plain_dump_of p)))
described-back p plain few =
    let is : IsGraph (plain_dump_of p) = IsGraph-dump_below (graph_of p) (length p.objects) (IsDumpable-plain p plain few) in
    (plain_exact p (plain_heap_of (plain_dump_of p)) plain (IsPlain-plain_heap_of (plain_dump_of p) is)).0 (sym (plain_dump_of-plain_heap_of (plain_dump_of p) is))

-- a text that is read is that of the plain heap that it describes
pub text_of_described : (text : List ℕ) (g : GraphState) → graph_of_text text ≡ Ok g → IsPlain (plain_heap_of g) × IsTextOf text (plain_dump_of (plain_heap_of g))
text_of_described text g read =
    let means = graph_within-means 268435456 text g read in
    (IsPlain-plain_heap_of g means.0, subst (IsTextOf text) (sym (plain_dump_of-plain_heap_of g means.0)) means.1)
