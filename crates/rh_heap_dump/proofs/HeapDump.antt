-- Heaps can be dumped, and a heap as the plain heap that it stands for.
use Rattle.std.specs.Prelude.{◌≡◌, ◌↔◌, ℕ, ◌^◌, ◌<◌, ◌≤◌, Bool, true, false, IsSome, not, nat_le, ◌&&◌, if◌then◌else◌, List, map, length, slice_get, slice_index_or, Option, Some, None}
use Rattle.std.specs.Option.{option_map}
use Rattle.std.proofs.Common.{refl, sym, ap, subst, ◌∙◌, arith}
use Rattle.std.proofs.Math.ListN.{length-map}
use Rattle.std.proofs.lemmas.Bool.{and_parts, leb-true}
use Rattle.std.proofs.lemmas.Option.{none-some, same_Some, slice_get-map, slice_get_within, get_or_from_slice_get}
use Rattle.rh_layout.specs.Item.{Pair}
use Rattle.rh_layout.specs.Value.{is_reference}
use Rattle.rh_layout.specs.Root.{has_root, root_position}
use Rattle.rh_layout.specs.declared.value.Value.{Value}
use Rattle.rh_layout.specs.declared.value.Value.TheVariants.{Nil, Int, Ref}
use Rattle.rh_layout.specs.declared.command.RootId.{RootId}
use Rattle.rh_space.specs.Space.{Object, IsSpace, object_at, used_words}
use Rattle.rh_space.specs.lemmas.Objects.{used_words-object_at, IsObject-object_at, fields_at-is}
use Rattle.rh_model.specs.Graph.{Graph, root_value}
use Rattle.rh_model.specs.Reach.{Reached}
use Rattle.rh_model.specs.SameGraph.{AreFieldsRenamed, IsPairing, SameGraph}
use Rattle.rh_model.specs.Plain as plain
use Rattle.rh_model.specs.Plain.{PlainHeap, PlainObject, field_lists}
use Rattle.rh_mutator.specs.declared.config.ConfigFault.TheVariants.{BadSpace, BadRatio, BadRoots, BadLog, BadNumbers}
use Rattle.rh_mutator.specs.declared.config.Config.{Config}
use Rattle.rh_core.specs.Config.{is_within, fault_of}
use Rattle.rh_core.specs.Mutator.{MutatorState, IsMutator, IsStorable, StandsFor, values_of, graph_of, pair_in}
use Rattle.rh_core.specs.Heap.{HeapState}
use Rattle.rh_dump.specs.Numbering.{dump_below, ReachesObjectsBelow}
use Rattle.rh_dump.specs.Dumpable.{IsTellable, IsDumpable}
use Rattle.rh_dump.specs.PlainDump.{plain_dump_of}
use Rattle.rh_heap_dump.specs.HeapDump.{dump_of}
use Rattle.rh_dump.specs.lemmas.Reaching.{reaches_objects}

-- a configuration without fault has its third test passed
third_passed : (a b p d e : Bool) → (if not a then Some BadSpace else if not b then Some BadRatio else if not p then Some BadRoots else if not d then Some BadLog else if not e then Some BadNumbers else None) ≡ None → p ≡ true
third_passed true true true d e fine = refl
third_passed true true false d e fine = absurd (none-some BadRoots (sym fine))
third_passed true false p d e fine = absurd (none-some BadRatio (sym fine))
third_passed false b p d e fine = absurd (none-some BadSpace (sym fine))

few_roots : (c : Config) → fault_of c ≡ None → (c.owners ≤ 16) × (c.slots ≤ 256)
few_roots c fine =
    let passed = third_passed (is_within 8 16777216 c.words) (is_within 1 64 c.ratio) (is_within 1 16 c.owners && is_within 1 256 c.slots) (is_within 1 1048576 c.log_limit)
    (is_within 1 (2 ^ 62) c.last_number && is_within 1 (2 ^ 62) c.last_epoch) fine in
    let parts = and_parts (is_within 1 16 c.owners) (is_within 1 256 c.slots) passed in
    (leb-true c.owners 16 (and_parts (nat_le 1 c.owners) (nat_le c.owners 16) parts.0).1, leb-true c.slots 256 (and_parts (nat_le 1 c.slots) (nat_le c.slots 256) parts.1).1)

-- an object's name has the values of an object
object_of : (at : Option Object) (fields : List Value) → values_of at ≡ Some fields → (o : Object) × (at ≡ Some o) × (map (λ (pair : Pair). pair.1) o.fields ≡ fields)
object_of None fields is = absurd (none-some fields is)
object_of (Some o) fields is = (o, refl, same_Some (map (λ (pair : Pair). pair.1) o.fields) fields is)

has_values : (at : Option Object) → IsSome at → IsSome (values_of at)
has_values None there = absurd (cc)
has_values (Some o) there = refl

-- an address is below the used words
address_below : (m : MutatorState) (a : ℕ) (fields : List Value) → (graph_of m).fields a ≡ Some fields → a < used_words m.space.objects
address_below m a fields is =
    let o = object_of (object_at m.space.objects a) fields is in
    omega (arith, used_words-object_at m.space.objects o.0 a o.1)

module _ (m : MutatorState) (kept : IsMutator m) where
  IsTellable-storable : (v : Value) → IsStorable m.space.objects v → IsTellable (graph_of m) v
  IsTellable-storable Nil storable = tt
  IsTellable-storable (Int n) storable = storable
  IsTellable-storable (Ref a) storable = has_values (object_at m.space.objects a) storable

  IsTellable-root : (r : RootId) → IsTellable (graph_of m) (root_value (graph_of m) r)
  IsTellable-root r = by (has_root m.roots.owners m.roots.slots r)
    where
      by : (t : Bool) → IsTellable (graph_of m) (if t then slice_index_or m.roots.values (root_position m.roots.slots r) Nil else Nil)
      by true = IsTellable-storable (slice_index_or m.roots.values (root_position m.roots.slots r) Nil) (kept.roots (root_position m.roots.slots r))
      by false = tt

  -- the value of a pair that may be there
  found_pair : (o : Option Pair) (v : Value) → option_map (λ (pair : Pair). pair.1) o ≡ Some v → (pair : Pair) × (o ≡ Some pair) × (pair.1 ≡ v)
  found_pair None v is = absurd (none-some v is)
  found_pair (Some pair) v is = (pair, refl, same_Some pair.1 v is)

  -- a value of an object's is that of its pair
  value_of-pair : (a f : ℕ) (fields : List Value) (v : Value) → (graph_of m).fields a ≡ Some fields → slice_get fields f ≡ Some v → (pair_in m.space.objects a f).1 ≡ v
  value_of-pair a f fields v is at =
      let o = object_of (object_at m.space.objects a) fields is in
      let pair = found_pair (slice_get o.0.fields f) v (sym (slice_get-map (λ (p : Pair). p.1) o.0.fields f) ∙ ap (λ l. slice_get l f) o.2 ∙ at) in
      let same : pair_in m.space.objects a f ≡ pair.0 =
      ap (λ l. slice_index_or l f (0, Nil)) (fields_at-is m.space.objects o.0 a o.1) ∙ get_or_from_slice_get o.0.fields f pair.0 (0, Nil) pair.1 in
      ap (λ (p : Pair). p.1) same ∙ pair.2

  IsTellable-field : (a f : ℕ) (fields : List Value) (v : Value) → (graph_of m).fields a ≡ Some fields → slice_get fields f ≡ Some v → IsTellable (graph_of m) v
  IsTellable-field a f fields v is at = IsTellable-storable v (subst (IsStorable m.space.objects) (value_of-pair a f fields v is at) (kept.fields a f))

  -- a heap reaches objects, whose addresses are below the used words
  pub reaches-heap : ReachesObjectsBelow (used_words m.space.objects) (graph_of m)
  reaches-heap = reaches_objects (used_words m.space.objects) (graph_of m) (address_below m) IsTellable-root IsTellable-field

  -- and can be dumped
  pub IsDumpable-heap : IsSpace m.space → IsDumpable (used_words m.space.objects) (graph_of m)
  IsDumpable-heap space = record {
    few = omega (arith, space.fits, space.most);
    owners = omega (arith, kept.owners, (few_roots m.config kept.config).0);
    slots = omega (arith, kept.slots, (few_roots m.config kept.config).1);
    roots = IsTellable-root;
    names = address_below m;
    counts = λ a fields is.
        let o = object_of (object_at m.space.objects a) fields is in
        omega (arith, (IsObject-object_at m.space.objects o.0 a space.objects o.1).few_fields, length-map o.0.fields (λ (p : Pair). p.1), ap length o.2);
    fields = IsTellable-field;
    raw = λ a f fields v kind is at. subst (λ w. is_reference w ≡ false) (value_of-pair a f fields v is at) (kept.raw a f kind);
  }

-- what one graph reaches, a pairing pairs with what the other reaches, and the other way round
abbrev pub PairsThere : Type 0
PairsThere = (g h : Graph) (pairing : ℕ → Option ℕ) → IsPairing g h pairing → (a : ℕ) → Reached g a → (b : ℕ) × (pairing a ≡ Some b) × Reached h b

abbrev pub PairsBack : Type 0
PairsBack = (g h : Graph) (pairing : ℕ → Option ℕ) → IsPairing g h pairing → (b : ℕ) → Reached h b → (a : ℕ) × (pairing a ≡ Some b) × Reached g a

-- fields that are renamed are there, in both
renamed_fields : (pairing : ℕ → Option ℕ) (x y : Option (List Value)) → AreFieldsRenamed pairing x y → ((these : List Value) × (x ≡ Some these)) × ((those : List Value) × (y ≡ Some those))
renamed_fields pairing None y same = absurd same
renamed_fields pairing (Some these) None same = absurd same
renamed_fields pairing (Some these) (Some those) same = ((these, refl), (those, refl))

-- graphs that reach finitely many objects have equal dumps exactly where they are the same
abbrev pub DumpsAreExact : Type 0
DumpsAreExact = (g h : Graph) (m n : ℕ) → ReachesObjectsBelow m g → ReachesObjectsBelow n h → (dump_below m g ≡ dump_below n h) ↔ SameGraph g h

-- an object's name has fields
has_fields : (x : Option (List Value)) (fields : List Value) → x ≡ Some fields → IsSome x
has_fields x fields is = subst IsSome (sym is) refl

-- a heap has the dump of a plain heap that it stands for
pub dump_of-plain : DumpsAreExact → PairsThere → PairsBack → (h : HeapState) (p : PlainHeap) → StandsFor h.mutators p → dump_of h ≡ plain_dump_of p
dump_of-plain exact there back h p stands =
    let pairing = stands.graph.0 in
    let paired = stands.graph.1 in
    sym ((exact (plain.graph_of p) (graph_of h.mutators) (length p.objects) (used_words h.mutators.space.objects)
    (λ a reached.
    let b = there (plain.graph_of p) (graph_of h.mutators) pairing paired a reached in
    let these = (renamed_fields pairing ((plain.graph_of p).fields a) ((graph_of h.mutators).fields b.0) (paired.fields a b.0 b.1)).0 in
    (has_fields ((plain.graph_of p).fields a) these.0 these.1, let within = slice_get_within (field_lists p.objects) a these.0 these.1 in let count = length-map p.objects (λ (o : PlainObject). o.fields) in omega (arith, within, count)))
    (λ b reached.
    let a = back (plain.graph_of p) (graph_of h.mutators) pairing paired b reached in
    let those = (renamed_fields pairing ((plain.graph_of p).fields a.0) ((graph_of h.mutators).fields b) (paired.fields a.0 b a.1)).1 in
    (has_fields ((graph_of h.mutators).fields b) those.0 those.1, address_below h.mutators b those.0 those.1))).1 stands.graph)
