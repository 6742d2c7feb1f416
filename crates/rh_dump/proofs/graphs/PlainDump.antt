-- Plain heaps can be dumped.
use Rattle.std.specs.Prelude.{◌≡◌, ℕ, zero, suc, ◌^◌, ◌≤◌, ◌<◌, Bool, true, false, IsSome, if◌then◌else◌, List, [], ◌∷◌, length, slice_get, slice_index_or, unwrap_or, Option, Some, None}
use Rattle.std.proofs.Common.{refl, sym, ap, subst, ◌∙◌, arith}
use Rattle.std.proofs.lemmas.List.Elements.{All-get_or}
use Rattle.std.proofs.lemmas.Option.{none-some, same_Some, slice_get_within, slice_get-get_or, get_or_from_slice_get}
use Rattle.rh_layout.specs.Root.{has_root, root_position}
use Rattle.rh_layout.specs.declared.value.Value.{Value}
use Rattle.rh_layout.specs.declared.value.Value.TheVariants.{Nil, Int, Ref}
use Rattle.rh_layout.specs.declared.command.RootId.{RootId}
use Rattle.rh_model.specs.Graph.{root_value, field_value}
use Rattle.rh_model.specs.lemmas.RootValue.{root_value-there}
use Rattle.std.proofs.Math.ListN.{length-map}
use Rattle.rh_layout.specs.Value.{is_reference}
use Rattle.rh_model.specs.Plain.{PlainObject, PlainHeap, field_lists, kinds, IsPlain, IsStorable, graph_of}
use Rattle.rh_dump.specs.Numbering.{ReachesObjectsBelow}
use Rattle.rh_dump.specs.Dumpable.{IsTellable, IsDumpable}
use Rattle.rh_dump.specs.Meeting.{IsBelow}
use Rattle.rh_dump.specs.lemmas.Reaching.{reaches_objects}

-- what may be stored in a plain heap that isn't too large refers to a name of 32 bits, if to any
pub IsBelow-storable : (objects : List PlainObject) → length objects ≤ 16777216 → (v : Value) → IsStorable objects v → IsBelow (2 ^ 32) v
IsBelow-storable objects few Nil storable = tt
IsBelow-storable objects few (Int n) storable = tt
IsBelow-storable objects few (Ref a) storable = omega (arith, few, storable)

module _ (p : PlainHeap) (plain : IsPlain p) where
  as_many : length (field_lists p.objects) ≡ length p.objects
  as_many = length-map p.objects (λ (o : PlainObject). o.fields)

  -- a position of fields is an object's
  within : (a : ℕ) (fields : List Value) → slice_get (field_lists p.objects) a ≡ Some fields → a < length p.objects
  within a fields is = let there : a < length (field_lists p.objects) = slice_get_within (field_lists p.objects) a fields is in omega (arith, there, as_many)

  plain_tellable : (v : Value) → IsStorable p.objects v → IsTellable (graph_of p) v
  plain_tellable Nil storable = tt
  plain_tellable (Int n) storable = storable
  plain_tellable (Ref a) storable = subst IsSome (sym (slice_get-get_or (field_lists p.objects) a [] (omega (arith, as_many, storable)))) refl

  plain_root : (r : RootId) → IsTellable (graph_of p) (root_value (graph_of p) r)
  plain_root r = by (has_root p.owners p.slots r)
    where
      by : (t : Bool) → IsTellable (graph_of p) (if t then slice_index_or p.roots (root_position p.slots r) Nil else Nil)
      by true = plain_tellable (slice_index_or p.roots (root_position p.slots r) Nil) (plain.roots (root_position p.slots r))
      by false = tt

  plain_field : (a f : ℕ) (fields : List Value) (v : Value) → slice_get (field_lists p.objects) a ≡ Some fields → slice_get fields f ≡ Some v → IsTellable (graph_of p) v
  plain_field a f fields v is at =
      plain_tellable v (subst (IsStorable p.objects) (ap (λ o. field_value o f) is ∙ get_or_from_slice_get fields f v Nil at) (plain.fields a f))

  -- a plain heap reaches objects, whose positions are below their number
  pub reaches-plain : ReachesObjectsBelow (length p.objects) (graph_of p)
  reaches-plain = reaches_objects (length p.objects) (graph_of p) within plain_root plain_field

  -- and can be dumped, where they aren't too many
  pub IsDumpable-plain : length p.objects ≤ 16777216 → IsDumpable (length p.objects) (graph_of p)
  IsDumpable-plain few = record {
    few = few;
    owners = plain.few_owners;
    slots = plain.few_slots;
    roots = plain_root;
    names = within;
    counts = λ a fields is.
        subst (λ (l : List Value). length l ≤ 4095) (get_or_from_slice_get (field_lists p.objects) a fields [] is)
        (All-get_or (λ (l : List Value). length l ≤ 4095) (field_lists p.objects) a [] (slice_get_within (field_lists p.objects) a fields is) plain.field_counts);
    fields = plain_field;
    raw = λ a f fields v raw is at.
        subst (λ (w : Value). is_reference w ≡ false) (ap (λ o. field_value o f) is ∙ get_or_from_slice_get fields f v Nil at) (plain.raw a f raw);
  }

-- a value that a reader gives, where the root is there, refers to a name of 32 bits, if to any
pub IsBelow-read_root : (p : PlainHeap) → IsPlain p → length p.objects ≤ 16777216 → (r : RootId) (w : Value) → Some w ≡ (if has_root p.owners p.slots r then Some (root_value (graph_of p) r) else None) → IsBelow (2 ^ 32) w
IsBelow-read_root p plain few r w read = IsBelow-storable p.objects few w (by (has_root p.owners p.slots r) refl read)
  where
    by : (t : Bool) → has_root p.owners p.slots r ≡ t → Some w ≡ (if t then Some (root_value (graph_of p) r) else None) → IsStorable p.objects w
    by true here at =
        subst (IsStorable p.objects) (sym (same_Some w (root_value (graph_of p) r) at ∙ root_value-there (graph_of p) r here)) (plain.roots (root_position p.slots r))
    by false missing at = absurd (none-some w (sym at))

-- and so does one that a reader gives of a field
pub IsBelow-read_field : (p : PlainHeap) → IsPlain p → length p.objects ≤ 16777216 → (a f : ℕ) (w : Value) → Some w ≡ slice_get (unwrap_or (slice_get (field_lists p.objects) a) []) f → IsBelow (2 ^ 32) w
IsBelow-read_field p plain few a f w read = IsBelow-storable p.objects few w (by (slice_get (field_lists p.objects) a) refl read)
  where
    by : (o : Option (List Value)) → slice_get (field_lists p.objects) a ≡ o → Some w ≡ slice_get (unwrap_or o []) f → IsStorable p.objects w
    by None none at = absurd (none-some w (sym at))
    by (Some fields) is at =
        subst (IsStorable p.objects) (ap (λ o. field_value o f) is ∙ get_or_from_slice_get fields f w Nil (sym at)) (plain.fields a f)

-- where no object is, none is raw
pub raw-none : (objects : List PlainObject) (a : ℕ) → None ≡ slice_get (kinds objects) a → false ≡ slice_index_or (kinds objects) a false
raw-none [] a none = refl
raw-none (o ∷ os) zero none = absurd (none-some o.raw none)
raw-none (o ∷ os) (suc a) none = raw-none os a none
