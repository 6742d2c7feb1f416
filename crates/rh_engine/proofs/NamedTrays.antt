-- The trays that a map of replicas has: looked up, and put.
use Rattle.std.proofs.Common.{◌≡◌, ℕ, List, [], ◌∷◌, Bool, true, false, cond, Option, Some, None, zero, suc, refl, ap}
use Rattle.std.specs.Option.{option_map, option_copied}
use Rattle.std.specs.Borrow.{Bor}
use Rattle.std.specs.Map.{lookup}
use Rattle.std.specs.Str.{bytes_eq}
use Rattle.std.specs.Prelude.{slice_get}
use Rattle.indexmap.specs.IndexMap.{insert_entry}
use Rattle.rh_partial.specs.PartialReplica.{ReplicaState}
use Rattle.rh_engine.specs.Trays.{Tray, Trays, tray_of, named_trays, trays_with}

-- a name with the tray that a replica is
abbrev pub named : List ℕ × ReplicaState → List ℕ × Tray
named e = (e.0, tray_of e.1)

found_by : (b : Bool) (r : ReplicaState) (here : Option Tray) (there : Option ReplicaState) → here ≡ option_map tray_of there
    → cond b (Some (tray_of r)) here ≡ option_map tray_of (cond b (Some r) there)
found_by true r here there same = refl
found_by false r here there same = same

pub lookup-named : (test : List ℕ → Bool) (es : List (List ℕ × ReplicaState)) → lookup test (named_trays es) ≡ option_map tray_of (lookup test es)
lookup-named test [] = refl
lookup-named test (e ∷ es) = found_by (test e.0) e.1 (lookup test (named_trays es)) (lookup test es) (lookup-named test es)

put_by : (b : Bool) (e : List ℕ × ReplicaState) (es more : List (List ℕ × ReplicaState)) (r : ReplicaState) (others : Trays) → named_trays more ≡ others
    → named_trays (cond b ((e.0, r) ∷ es) (e ∷ more)) ≡ cond b ((e.0, tray_of r) ∷ named_trays es) ((e.0, tray_of e.1) ∷ others)
put_by true e es more r others same = refl
put_by false e es more r others same = ap (λ rest. (e.0, tray_of e.1) ∷ rest) same

pub named_trays-insert_entry : (es : List (List ℕ × ReplicaState)) (name : List ℕ) (r : ReplicaState)
    → named_trays (insert_entry bytes_eq es name r) ≡ trays_with (named_trays es) name (tray_of r)
named_trays-insert_entry [] name r = refl
named_trays-insert_entry (e ∷ es) name r =
    put_by (bytes_eq name e.0) e es (insert_entry bytes_eq es name r) r (trays_with (named_trays es) name (tray_of r)) (named_trays-insert_entry es name r)

-- the tray at a place among them
pub slice_get-named : (es : List (List ℕ × ReplicaState)) (i : ℕ) → slice_get (named_trays es) i ≡ option_map named (slice_get es i)
slice_get-named [] i = refl
slice_get-named (e ∷ es) zero = refl
slice_get-named (e ∷ es) (suc i) = slice_get-named es i

pub tray_of-copied : (r : Option (Bor ReplicaState)) → option_map (λ b. tray_of b.now) r ≡ option_map tray_of (option_copied r)
tray_of-copied None = refl
tray_of-copied (Some b) = refl
