-- Entries in order of place with items joined in: their order, and what they have at each place.
use Rattle.std.proofs.Common.{◌≡◌, ℕ, List, [], ◌∷◌, Bool, true, false, cond, Option, Some, None, map, find, refl, sym, ◌∙◌, ap, subst}
use Rattle.std.specs.Prelude.{nat_lt}
use Rattle.std.specs.Ordering.{is_eq, ord_max}
use Rattle.std.specs.Option.{option_map}
use Rattle.std.specs.Map.{keys_of}
use Rattle.std.specs.BTreeMap.{insert_entry, is_at}
use Rattle.std.specs.List.Sorted.{IsStrictlySortedBy}
use Rattle.std.proofs.lemmas.Cmp.{eq_by_cmp_equiv}
use Rattle.std.proofs.lemmas.Map.{lookup-none}
use Rattle.std.proofs.lemmas.Map.Keys.{sorted_tail, IsDistinct-from_sorted}
use Rattle.std.proofs.lemmas.Map.Entries.{none_past_head}
use Rattle.rh_layout.specs.lemmas.Order.{place_cmp_total}
use Rattle.rh_layout.specs.Item.{Pair, place_of, pair_of, place_cmp, pair_cmp}
use Rattle.rh_layout.specs.declared.item.Item.{Item}
use Rattle.rh_layout.specs.declared.item.Place.{Place}
use Rattle.rh_join.specs.Join.{IsAssociative}
use Rattle.rh_join.specs.MapOf.{value_at, joined_at_key, IsBelow}
use Rattle.rh_join.specs.TotalOrder.{IsAtMost}
use Rattle.rh_join.specs.lemmas.Join.{joined-associative}
use Rattle.rh_join.specs.lemmas.MapOf.{map_order, joined_maps_least}
use Rattle.rh_join.specs.lemmas.Newest.{newest_order, newest_joined_is_least}
use Rattle.rh_join.proofs.Places.{sorted-insert_entry, value_at-insert_entry}
use Rattle.rh_partial.specs.Item.{is_of, newest}
use Rattle.rh_partial.specs.PartialReplica.{ReplicaState, pair_at, joined_newest, content_of_replica, joined_replicas}
use Rattle.rh_partial.proofs.EntryLemmas.{entries-same, replica-same}
use Rattle.rh_partial.proofs.ItemLemmas.{is_of-place_cmp, newest_by, newest-append, joined_at_key-none, place-from_is_of}
use Rattle.rh_engine.specs.Trays.{by_place, entries_of, newer_of, entries_with, entries_with_all, tray_of, joined_trays, tray_with}

-- the entries stand in order of place
abbrev pub Rises : List Item → Type 0
Rises entries = IsStrictlySortedBy place_cmp (map place_of entries)

by_place-entries_of : (pairs : List (Place × Pair)) → by_place (entries_of pairs) ≡ pairs
by_place-entries_of [] = refl
by_place-entries_of (e ∷ es) = ap (λ rest. e ∷ rest) (by_place-entries_of es)

keys-by_place : (entries : List Item) → keys_of (by_place entries) ≡ map place_of entries
keys-by_place [] = refl
keys-by_place (i ∷ is) = ap (λ rest. place_of i ∷ rest) (keys-by_place is)

places-entries_of : (pairs : List (Place × Pair)) → map place_of (entries_of pairs) ≡ keys_of pairs
places-entries_of [] = refl
places-entries_of (e ∷ es) = ap (λ rest. e.0 ∷ rest) (places-entries_of es)

found_by : (b c : Bool) (i : Item) (here : Option Pair) (there : Option Item) → c ≡ b → here ≡ option_map pair_of there
    → cond b (Some (pair_of i)) here ≡ option_map pair_of (cond c (Some i) there)
found_by true c i here there same rest = ap (λ d. option_map pair_of (cond d (Some i) there)) (sym same)
found_by false c i here there same rest = rest ∙ ap (λ d. option_map pair_of (cond d (Some i) there)) (sym same)

value_at-by_place : (entries : List Item) (p : Place) → value_at place_cmp (by_place entries) p ≡ pair_at entries p
value_at-by_place [] p = refl
value_at-by_place (i ∷ is) p =
    found_by (is_eq (place_cmp p (place_of i))) (is_of p i) i (value_at place_cmp (by_place is) p) (find (is_of p) is) (is_of-place_cmp p i) (value_at-by_place is p)

pub rises-with : (entries : List Item) (i : Item) → Rises entries → Rises (entries_with entries i)
rises-with entries i rises =
    let w = newer_of (pair_at entries (place_of i)) (pair_of i) in
    subst (IsStrictlySortedBy place_cmp) (sym (places-entries_of (insert_entry place_cmp (by_place entries) (place_of i) w)))
    (sorted-insert_entry place_cmp (place_of i) w place_cmp_total (by_place entries) (subst (IsStrictlySortedBy place_cmp) (sym (keys-by_place entries)) rises))

pub rises-with_all : (entries items : List Item) → Rises entries → Rises (entries_with_all entries items)
rises-with_all entries [] rises = rises
rises-with_all entries (i ∷ is) rises = rises-with_all (entries_with entries i) is (rises-with entries i rises)

newer-joined : (found : Option Pair) (v : Pair) → Some (newer_of found v) ≡ joined_at_key (ord_max pair_cmp) found (Some v)
newer-joined None v = refl
newer-joined (Some old) v = refl

joined_by : (entries : List Item) (i : Item) (p : Place) (b : Bool) → is_of p i ≡ b
    → cond b (Some (newer_of (pair_at entries (place_of i)) (pair_of i))) (pair_at entries p)
    ≡ joined_at_key (ord_max pair_cmp) (pair_at entries p) (cond b (Some (pair_of i)) None)
joined_by entries i p true h =
    newer-joined (pair_at entries (place_of i)) (pair_of i)
    ∙ ap (λ q. joined_at_key (ord_max pair_cmp) (pair_at entries q) (Some (pair_of i))) (place-from_is_of p i h)
joined_by entries i p false h = sym (joined_at_key-none (pair_at entries p))

newest-one : (i : Item) (p : Place) → newest (i ∷ []) p ≡ cond (is_of p i) (Some (pair_of i)) None
newest-one i p = newest_by (is_of p i) (is_of p i) i refl

same_test : (p : Place) (i : Item) → is_eq (place_cmp (place_of i) p) ≡ is_of p i
same_test p i = (eq_by_cmp_equiv place_cmp_total).symm (place_of i) p ∙ sym (is_of-place_cmp p i)

pub pair_at-with : (entries : List Item) (i : Item) (p : Place)
    → pair_at (entries_with entries i) p ≡ joined_at_key (ord_max pair_cmp) (pair_at entries p) (newest (i ∷ []) p)
pair_at-with entries i p =
    let w = newer_of (pair_at entries (place_of i)) (pair_of i) in
    let pairs = insert_entry place_cmp (by_place entries) (place_of i) w in
    sym (value_at-by_place (entries_of pairs) p)
    ∙ ap (λ ps. value_at place_cmp ps p) (by_place-entries_of pairs)
    ∙ value_at-insert_entry place_cmp (place_of i) w place_cmp_total (by_place entries) p
    ∙ ap (λ b. cond b (Some w) (value_at place_cmp (by_place entries) p)) (same_test p i)
    ∙ ap (λ v. cond (is_of p i) (Some w) v) (value_at-by_place entries p)
    ∙ joined_by entries i p (is_of p i) refl
    ∙ ap (λ n. joined_at_key (ord_max pair_cmp) (pair_at entries p) n) (sym (newest-one i p))

joined_newest-associative : IsAssociative joined_newest
joined_newest-associative =
    joined-associative (IsBelow (IsAtMost pair_cmp)) joined_newest (map_order (IsAtMost pair_cmp) newest_order)
    (joined_maps_least (IsAtMost pair_cmp) newest_order (ord_max pair_cmp) newest_joined_is_least)

-- at each place stands what stood there, joined with the newest of the items
pub pair_at-with_all : (entries items : List Item) → pair_at (entries_with_all entries items) ≡ joined_newest (pair_at entries) (newest items)
pair_at-with_all entries [] = λ j p. sym (joined_at_key-none (pair_at entries p)) j
pair_at-with_all entries (i ∷ is) =
    let first : pair_at (entries_with entries i) ≡ joined_newest (pair_at entries) (newest (i ∷ [])) = λ j p. pair_at-with entries i p j in
    let both : joined_newest (newest (i ∷ [])) (newest is) ≡ newest (i ∷ is) = λ j p. sym (newest-append (i ∷ []) is p) j in
    pair_at-with_all (entries_with entries i) is
    ∙ ap (λ f. joined_newest f (newest is)) first
    ∙ joined_newest-associative (pair_at entries) (newest (i ∷ [])) (newest is)
    ∙ ap (joined_newest (pair_at entries)) both

-- entries in order with this content are those with the items joined in
pub entries-from_content : (entries items new : List Item) → Rises entries → Rises new
    → pair_at new ≡ joined_newest (pair_at entries) (newest items) → new ≡ entries_with_all entries items
entries-from_content entries items new rises rising same =
    entries-same new (entries_with_all entries items) rising (rises-with_all entries items rises) (same ∙ sym (pair_at-with_all entries items))

past : (i : Item) (is : List Item) (p : Place) → Rises (i ∷ is) → is_of p i ≡ true → pair_at is p ≡ None
past i is p rises at =
    let keys = subst (IsStrictlySortedBy place_cmp) (sym (keys-by_place (i ∷ is))) rises in
    sym (value_at-by_place is p)
    ∙ lookup-none (is_at (place_cmp p)) (by_place is)
    (none_past_head (eq_by_cmp_equiv place_cmp_total) p (place_of i, pair_of i) (by_place is)
    (IsDistinct-from_sorted place_cmp (keys_of (by_place (i ∷ is))) keys) (sym (is_of-place_cmp p i) ∙ at))

head_by : (i : Item) (is : List Item) (p : Place) (b : Bool) → (b ≡ true → pair_at is p ≡ None)
    → option_map pair_of (cond b (Some i) (find (is_of p) is)) ≡ joined_at_key (ord_max pair_cmp) (cond b (Some (pair_of i)) None) (pair_at is p)
head_by i is p true none = ap (joined_at_key (ord_max pair_cmp) (Some (pair_of i))) (sym (none refl))
head_by i is p false none = refl

-- of entries in order each is the newest of its place
pub pair_at-newest : (entries : List Item) → Rises entries → (p : Place) → pair_at entries p ≡ newest entries p
pair_at-newest [] rises p = refl
pair_at-newest (i ∷ is) rises p =
    head_by i is p (is_of p i) (past i is p rises)
    ∙ ap (λ n. joined_at_key (ord_max pair_cmp) n (pair_at is p)) (sym (newest-one i p))
    ∙ ap (joined_at_key (ord_max pair_cmp) (newest (i ∷ []) p)) (pair_at-newest is (sorted_tail place_cmp (place_of i) (map place_of is) rises) p)
    ∙ sym (newest-append (i ∷ []) is p)

tray-same : (r s : ReplicaState) → Rises r.entries → Rises s.entries → content_of_replica r ≡ content_of_replica s → tray_of r ≡ tray_of s
tray-same r s rises rising same =
    let parts = replica-same r s rises rising same in
    λ i. record { epoch = parts.0 i; entries = parts.1 i }

-- a replica that took items into a tray
pub tray-taken : (both r : ReplicaState) (items : List Item) → Rises both.entries → Rises r.entries
    → (let taken : ℕ × (Place → Option Pair) = (r.epoch, joined_newest (pair_at r.entries) (newest items)) in content_of_replica both ≡ taken)
    → tray_of both ≡ tray_with (tray_of r) items
tray-taken both r items rising rises same =
    let entries = entries-from_content r.entries items both.entries rises rising (ap (λ c. c.1) same) in
    λ i. record { epoch = ap (λ c. c.0) same i; entries = entries i }

joined_by_epochs : (both r s : ReplicaState) → Rises both.entries → Rises r.entries → Rises s.entries → (x y : Bool)
    → content_of_replica both ≡ cond x (content_of_replica s) (cond y (content_of_replica r) (r.epoch, joined_newest (pair_at r.entries) (pair_at s.entries)))
    → tray_of both ≡ cond x (tray_of s) (cond y (tray_of r) (tray_with (tray_of r) s.entries))
joined_by_epochs both r s rising first second true y same = tray-same both s rising second same
joined_by_epochs both r s rising first second false true same = tray-same both r rising first same
joined_by_epochs both r s rising first second false false same =
    let newest_of_s : pair_at s.entries ≡ newest s.entries = λ j p. pair_at-newest s.entries second p j in
    tray-taken both r s.entries rising first (same ∙ ap (λ f. (r.epoch, joined_newest (pair_at r.entries) f)) newest_of_s)

-- a replica that joins two others
pub tray-joined : (both r s : ReplicaState) → Rises both.entries → Rises r.entries → Rises s.entries
    → content_of_replica both ≡ joined_replicas (content_of_replica r) (content_of_replica s) → tray_of both ≡ joined_trays (tray_of r) (tray_of s)
tray-joined both r s rising first second same =
    joined_by_epochs both r s rising first second (nat_lt r.epoch s.epoch) (nat_lt s.epoch r.epoch) same

-- a copy of a replica
pub tray-copied : (second r : ReplicaState) → Rises second.entries → Rises r.entries → content_of_replica second ≡ content_of_replica r → tray_of second ≡ tray_of r
tray-copied = tray-same
