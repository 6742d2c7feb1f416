-- A tray that is there takes another replica, and the others stay.
use Rattle.std.proofs.Common.{◌≡◌, ℕ, List, [], ◌∷◌, Bool, true, false, cond, Some, None, is_some, refl, sym, ◌∙◌, ap, true≢false}
use Rattle.std.specs.Option.{option_map}
use Rattle.std.specs.Map.{lookup, set_value}
use Rattle.std.specs.Str.{bytes_eq}
use Rattle.rh_partial.specs.PartialReplica.{ReplicaState}
use Rattle.rh_engine.specs.Trays.{Tray, Trays, tray_of, tray_named, named_trays, trays_with}
use Rattle.rh_engine.proofs.NamedTrays.{lookup-named}

module _ (name : List ℕ) (r : ReplicaState) where
  set_by : (b : Bool) (e : List ℕ × ReplicaState) (es : List (List ℕ × ReplicaState)) → bytes_eq name e.0 ≡ b
      → is_some (lookup (bytes_eq name) (e ∷ es)) ≡ true
      → (is_some (lookup (bytes_eq name) es) ≡ true → named_trays (set_value (bytes_eq name) es r) ≡ trays_with (named_trays es) name (tray_of r))
      → named_trays (cond b ((e.0, r) ∷ es) (e ∷ set_value (bytes_eq name) es r))
      ≡ cond b ((e.0, tray_of r) ∷ named_trays es) ((e.0, tray_of e.1) ∷ trays_with (named_trays es) name (tray_of r))
  set_by true e es h there rest = refl
  set_by false e es h there rest =
      ap (λ ts. (e.0, tray_of e.1) ∷ ts) (rest (ap (λ b. is_some (cond b (Some e.1) (lookup (bytes_eq name) es))) (sym h) ∙ there))

  named_trays-set_value : (es : List (List ℕ × ReplicaState)) → is_some (lookup (bytes_eq name) es) ≡ true
      → named_trays (set_value (bytes_eq name) es r) ≡ trays_with (named_trays es) name (tray_of r)
  named_trays-set_value [] there = absurd (true≢false (sym there))
  named_trays-set_value (e ∷ es) there = set_by (bytes_eq name e.0) e es refl there (named_trays-set_value es)

module _ (name : List ℕ) (t : Tray) where
  same_by : (b : Bool) (e : List ℕ × Tray) (es : Trays) → bytes_eq name e.0 ≡ b → tray_named (e ∷ es) name ≡ Some t
      → (tray_named es name ≡ Some t → trays_with es name t ≡ es)
      → cond b ((e.0, t) ∷ es) (e ∷ trays_with es name t) ≡ e ∷ es
  same_by true e es h there rest =
      let mine : Some e.1 ≡ Some t = ap (λ b. cond b (Some e.1) (tray_named es name)) (sym h) ∙ there in
      let equal : t ≡ e.1 = cc in
      ap (λ u. (e.0, u) ∷ es) equal
  same_by false e es h there rest =
      ap (λ ts. e ∷ ts) (rest (ap (λ b. cond b (Some e.1) (tray_named es name)) (sym h) ∙ there))

  -- the trays stay where a tray takes what it had
  trays_with-same : (trays : Trays) → tray_named trays name ≡ Some t → trays_with trays name t ≡ trays
  trays_with-same [] there = cc
  trays_with-same (e ∷ es) there = same_by (bytes_eq name e.0) e es refl there (trays_with-same es)

-- a name that the map has no replica for has no tray
pub tray_named-none : (trays : Trays) (es : List (List ℕ × ReplicaState)) (name : List ℕ)
    → named_trays es ≡ trays → None ≡ lookup (bytes_eq name) es → tray_named trays name ≡ None
tray_named-none trays es name seen none =
    ap (λ ts. tray_named ts name) (sym seen)
    ∙ lookup-named (bytes_eq name) es
    ∙ ap (option_map tray_of) (sym none)

module _ (trays : Trays) (es : List (List ℕ × ReplicaState)) (name : List ℕ) (old : ReplicaState)
    (seen : named_trays es ≡ trays) (there : Some old ≡ lookup (bytes_eq name) es) where
  -- and where it has one, that is its tray
  pub tray_named-some : tray_named trays name ≡ Some (tray_of old)
  tray_named-some =
      ap (λ ts. tray_named ts name) (sym seen)
      ∙ lookup-named (bytes_eq name) es
      ∙ ap (option_map tray_of) (sym there)

  module _ (after : List (List ℕ × ReplicaState)) (new : ReplicaState) (is : after ≡ set_value (bytes_eq name) es new) where
    -- once a replica was written in its place
    pub named_trays-written : named_trays after ≡ trays_with trays name (tray_of new)
    named_trays-written =
        ap named_trays is
        ∙ named_trays-set_value name new es (ap is_some (sym there))
        ∙ ap (λ ts. trays_with ts name (tray_of new)) seen

    -- and where that is of equal content
    pub named_trays-kept : tray_of new ≡ tray_of old → named_trays after ≡ trays
    named_trays-kept same =
        named_trays-written
        ∙ ap (trays_with trays name) same
        ∙ trays_with-same name (tray_of old) trays tray_named-some
