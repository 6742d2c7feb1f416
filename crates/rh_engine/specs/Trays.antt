-- Trays: partial replicas with names, in the order in which the names were first used.
use Rattle.std.specs.Prelude.{◌≡◌, ◌≢◌, ℕ, ◌<◌, ◌≤◌, nat_lt, nat_le, Bool, ◌&&◌, if◌then◌else◌, List, [], ◌∷◌, ◌++◌, length, map, fold, Option, Some, None, is_some, is_none, unwrap_or, Result, Ok, Err}
use Rattle.std.specs.BTreeMap.{insert_entry}
use Rattle.std.specs.List.Sorted.{IsStrictlySortedBy}
use Rattle.std.specs.Map.{lookup, keys_of}
use Rattle.std.specs.Ordering.{ord_max}
use Rattle.std.specs.Str.{bytes_eq}
use Rattle.rh_layout.specs.Item.{Pair, pair_of, place_of, pair_cmp, place_cmp}
use Rattle.rh_layout.specs.declared.item.Item.{Item}
use Rattle.rh_layout.specs.declared.item.Place.{Place}
use Rattle.rh_partial.specs.Item.{newest}
use Rattle.rh_partial.specs.PartialReplica.{ReplicaState, pair_at, joined_newest}
use Rattle.rh_partial.specs.Piece.{PieceState}
use Rattle.rh_core.specs.Dealing.{item_at}
use Rattle.rh_engine.specs.declared.trays.JoinRefusal.{JoinRefusal}
use Rattle.rh_engine.specs.declared.trays.JoinRefusal.TheVariants.{NoTray, TooManyTrays}

-- Entries.

-- each entry as its place and its pair
abbrev pub by_place : List Item → List (Place × Pair)
by_place entries = map (λ i. (place_of i, pair_of i)) entries

-- the entries that have these pairs at these places
abbrev pub entries_of : List (Place × Pair) → List Item
entries_of pairs = map (λ e. item_at e.0 e.1) pairs

-- the newer of a pair and of another that may be there
abbrev pub newer_of : Option Pair → Pair → Pair
newer_of None new = new
newer_of (Some old) new = ord_max pair_cmp old new

-- the entries with an item joined in: at its place stands the newer of both pairs
abbrev pub entries_with : List Item → Item → List Item
entries_with entries i =
    entries_of (insert_entry place_cmp (by_place entries) (place_of i)
    (newer_of (pair_at entries (place_of i)) (pair_of i)))

-- the entries with all these items joined in, one after the other
abbrev pub entries_with_all : List Item → List Item → List Item
entries_with_all entries items = fold entries_with entries items

-- A tray.

-- what a tray holds: its epoch, and its entries in order of place
pub record Tray : Type 0 where
  pub epoch : ℕ
  pub entries : List Item

-- the tray that a partial replica is
abbrev pub tray_of : ReplicaState → Tray
tray_of r = record { epoch = r.epoch; entries = r.entries }

-- the partial replica in a tray
abbrev pub replica_of : Tray → ReplicaState
replica_of t = record { epoch = t.epoch; entries = t.entries; room = 0 }

-- a tray of this epoch, without entries
abbrev pub empty_tray : ℕ → Tray
empty_tray epoch = record { epoch = epoch; entries = [] }

-- a tray with items joined in
abbrev pub tray_with : Tray → List Item → Tray
tray_with t items = record t { entries = entries_with_all t.entries items }

-- two trays joined: of two epochs the later one, and of one epoch both
abbrev pub joined_trays : Tray → Tray → Tray
joined_trays t u =
    if nat_lt t.epoch u.epoch then u
    else if nat_lt u.epoch t.epoch then t
    else tray_with t u.entries

-- All trays.

-- the trays of a trace, each with its name, in the order in which the names were first used
abbrev pub Trays : Type 0
Trays = List (List ℕ × Tray)

-- the trays that partial replicas with names are
abbrev pub named_trays : List (List ℕ × ReplicaState) → Trays
named_trays entries = map (λ e. (e.0, tray_of e.1)) entries

-- the tray of this name, if there is one
abbrev pub tray_named : Trays → List ℕ → Option Tray
tray_named trays name = lookup (bytes_eq name) trays

-- the trays once this one has the name: it stands where the name stood, or last
abbrev pub trays_with : Trays → List ℕ → Tray → Trays
trays_with [] name t = (name, t) ∷ []
trays_with (e ∷ es) name t =
    if bytes_eq name e.0 then (e.0, t) ∷ es else e ∷ trays_with es name t

-- whether a tray of this name would be one too many: there is none yet, and there are 64 others
abbrev pub is_beyond : Trays → List ℕ → Bool
is_beyond trays name = is_none (tray_named trays name) && nat_le 64 (length trays)

-- the tray of this name, and where there is none an empty one of this epoch
abbrev pub tray_or_empty : Trays → List ℕ → ℕ → Tray
tray_or_empty trays name epoch = unwrap_or (tray_named trays name) (empty_tray epoch)

-- what a tray becomes with which another is joined: their join, or where there is none a copy
abbrev pub joined_into : Option Tray → Tray → Tray
joined_into None u = u
joined_into (Some t) u = joined_trays t u

-- the trays once one was joined into the one of a name, and how many entries that one has then
abbrev pub with_join : Trays → List ℕ → Tray → Trays × Result ℕ JoinRefusal
with_join trays into u = (
  trays_with trays into (joined_into (tray_named trays into) u),
  Ok (length (joined_into (tray_named trays into) u).entries),
)

-- the same, where the other tray may not be there, or the first be one too many
abbrev pub join_found : Option Tray → Trays → List ℕ → Trays × Result ℕ JoinRefusal
join_found None trays into = (trays, Err NoTray)
join_found (Some u) trays into =
    if is_beyond trays into then (trays, Err TooManyTrays) else with_join trays into u

-- The second tray is joined into the first.
abbrev pub join_step : Trays → List ℕ → List ℕ → Trays × Result ℕ JoinRefusal
join_step trays into other = join_found (tray_named trays other) trays into

-- Laws.

-- the entries of the tray stand in order of place
abbrev pub IsInOrder : Tray → Type 0
IsInOrder t = IsStrictlySortedBy place_cmp (map place_of t.entries)

-- the entries of each tray stand in order of place
abbrev pub AreInOrder : Trays → Type 0
AreInOrder [] = Unit {0}
AreInOrder (e ∷ es) = IsInOrder e.1 × AreInOrder es

-- There are at most 64 trays, and the entries of each stand in order of place.
pub record AreFewInOrder (trays : Trays) : Type 0 where
  pub order : AreInOrder trays
  pub few : length trays ≤ 64

-- what a tray has at each place, and nothing where there is no tray
abbrev pub content_of_tray : Option Tray → Place → Option Pair
content_of_tray None p = None
content_of_tray (Some t) p = pair_at t.entries p

-- One tray changed at most: that of this name, which is this one now. The names kept their order,
-- and a new one went last.
pub record IsChangedAlone (before after : Trays) (name : List ℕ) (t : Tray) : Type 0 where
  pub there : tray_named after name ≡ Some t
  pub others : (other : List ℕ) → other ≢ name → tray_named after other ≡ tray_named before other
  pub order : keys_of after
      ≡ (if is_some (tray_named before name) then keys_of before
      else keys_of before ++ name ∷ [])

-- A piece was folded into the tray of this name: the tray is of the piece's epoch, and has at each
-- place what it had before, where there was one, joined with the newest of the piece's items. Where
-- its entries stood in order of place, or it is new, they stand so now.
pub record IsFoldedInto (before after : Trays) (name : List ℕ) (piece : PieceState) : Type 0 where
  pub tray : Tray
  pub alone : IsChangedAlone before after name tray
  pub epoch : tray.epoch ≡ piece.epoch
  pub content : pair_at tray.entries
      ≡ joined_newest (content_of_tray (tray_named before name)) (newest piece.items)
  pub order : ((t : Tray) → tray_named before name ≡ Some t → IsInOrder t) → IsInOrder tray

-- A tray is two others joined: of two epochs it is the later one; of one epoch it has at each place
-- what one had alone, or the newer of what both had. Where the entries of both stood in order of
-- place, its own do.
pub record IsJoinOf (first second both : Tray) : Type 0 where
  pub earlier : first.epoch < second.epoch → both ≡ second
  pub later : second.epoch < first.epoch → both ≡ first
  pub epoch : first.epoch ≡ second.epoch → both.epoch ≡ first.epoch
  pub content : first.epoch ≡ second.epoch → IsInOrder second
      → pair_at both.entries ≡ joined_newest (pair_at first.entries) (pair_at second.entries)
  pub order : IsInOrder first → IsInOrder second → IsInOrder both

-- The second tray was joined into the first, which is a copy of it where there was none, and has so
-- many entries now.
pub record IsJoinedInto (before after : Trays) (into other : List ℕ) (count : ℕ) : Type 0 where
  pub second : Tray
  pub source : tray_named before other ≡ Some second
  pub tray : Tray
  pub alone : IsChangedAlone before after into tray
  pub copy : tray_named before into ≡ None → tray ≡ second
  pub join : (first : Tray) → tray_named before into ≡ Some first → IsJoinOf first second tray
  pub counted : count ≡ length tray.entries
