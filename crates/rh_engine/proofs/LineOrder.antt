-- A join and a give of trays are refused by the first refusal that holds.
use Rattle.std.proofs.Common.{◌≡◌, ℕ, zero, suc, ◌<◌, ◌⊎◌, inl, inr, Bool, true, false, if◌then◌else◌, List, Option, Some, None, Result, Ok, Err, refl, sym, ◌∙◌, ap, subst, true≢false, arith}
use Rattle.rh_text.specs.Stages.{IsLeast, IsFaultless}
use Rattle.rh_core.specs.Giving.{give_step}
use Rattle.rh_core.specs.declared.outcomes.Given.{Given}
use Rattle.rh_core.specs.declared.errors.GiveError.{GiveError}
use Rattle.rh_engine.specs.Trays.{Tray, Trays, tray_named, is_beyond, with_join, join_found, replica_of}
use Rattle.rh_engine.specs.Engine.{EngineState, join_line_step, give_line_step, given_or_refused, give_found, refusals_of_join, refusals_of_give}
use Rattle.rh_engine.specs.declared.engine.GiveRefusal.{GiveRefusal}
use Rattle.rh_engine.specs.declared.engine.GiveRefusal.TheVariants as give_refusals
use Rattle.rh_engine.specs.declared.trays.JoinRefusal.{JoinRefusal}
use Rattle.rh_engine.specs.declared.trays.JoinRefusal.TheVariants as join_refusals
use Rattle.rh_engine.proofs.DealOrder.{too_many_from, from_too_many}

module _ (e : EngineState) (into other : List ℕ) where
  abbrev JoinHolds : ℕ → JoinRefusal → Type 0
  JoinHolds = refusals_of_join e into other

  first_join : (why : JoinRefusal) → why ≡ join_refusals.NoTray → (p : ℕ) (k : JoinRefusal) → JoinHolds p k → (0 < p) ⊎ ((p ≡ 0) × (k ≡ why))
  first_join why is zero k h = inr (refl, h.0 ∙ sym is)
  first_join why is (suc p) k h = inl (omega arith)

  second_join : (why : JoinRefusal) → why ≡ join_refusals.TooManyTrays → (u : Tray) → tray_named e.trays other ≡ Some u
      → (p : ℕ) (k : JoinRefusal) → JoinHolds p k → (1 < p) ⊎ ((p ≡ 1) × (k ≡ why))
  second_join why is u there zero k h = absurd (cc (h.1, there))
  second_join why is u there (suc zero) k h = inr (refl, h.0 ∙ sym is)
  second_join why is u there (suc (suc p)) k h = inl (omega arith)

  abbrev IsJoinRefused : Trays × Result ℕ JoinRefusal → JoinRefusal → Type 0
  IsJoinRefused done why = IsLeast JoinHolds why × (◌≡◌ {A = EngineState} (record e { trays = done.0 }) e)

  abbrev limited : Bool → Tray → Trays × Result ℕ JoinRefusal
  limited b u = if b then (e.trays, Err join_refusals.TooManyTrays) else with_join e.trays into u

  join_by : (u : Tray) → tray_named e.trays other ≡ Some u → (b : Bool) → is_beyond e.trays into ≡ b → (why : JoinRefusal)
      → (limited b u).1 ≡ Err why
      → IsJoinRefused (limited b u) why
  join_by u there true is why h =
      let equal : why ≡ join_refusals.TooManyTrays = cc in
      (record { stage = 1; holds = (equal, too_many_from e into is); least = second_join why equal u there }, refl)
  join_by u there false is why h = cc

  join_found_by : (f : Option Tray) → tray_named e.trays other ≡ f → (why : JoinRefusal) → (join_found f e.trays into).1 ≡ Err why → IsJoinRefused (join_found f e.trays into) why
  join_found_by None is why h =
      let equal : why ≡ join_refusals.NoTray = cc in
      (record { stage = 0; holds = (equal, is); least = first_join why equal }, refl)
  join_found_by (Some u) is why h = join_by u is (is_beyond e.trays into) refl why h

  pub join-refused : (why : JoinRefusal) → (join_line_step e into other).1 ≡ Err why → IsLeast JoinHolds why × ((join_line_step e into other).0 ≡ e)
  join-refused why h = join_found_by (tray_named e.trays other) refl why h

  none_of_join : (u : Tray) → tray_named e.trays other ≡ Some u → is_beyond e.trays into ≡ false → (p : ℕ) (k : JoinRefusal) → JoinHolds p k → ⊥
  none_of_join u there few zero k h = cc (h.1, there)
  none_of_join u there few (suc zero) k h = true≢false (sym (from_too_many e into h.1) ∙ few)
  none_of_join u there few (suc (suc p)) k h = h

  joined_by : (u : Tray) → tray_named e.trays other ≡ Some u → (b : Bool) → is_beyond e.trays into ≡ b → (entries : ℕ)
      → (limited b u).1 ≡ Ok entries
      → (p : ℕ) (k : JoinRefusal) → JoinHolds p k → ⊥
  joined_by u there true is entries h = cc
  joined_by u there false is entries h = none_of_join u there is

  joined_found : (f : Option Tray) → tray_named e.trays other ≡ f → (entries : ℕ) → (join_found f e.trays into).1 ≡ Ok entries → (p : ℕ) (k : JoinRefusal) → JoinHolds p k → ⊥
  joined_found None is entries h = cc
  joined_found (Some u) is entries h = joined_by u is (is_beyond e.trays into) refl entries h

  pub join-accepted : (entries : ℕ) → (join_line_step e into other).1 ≡ Ok entries → IsFaultless JoinHolds
  join-accepted entries h = joined_found (tray_named e.trays other) refl entries h

module _ (e : EngineState) (name : List ℕ) where
  abbrev GiveHolds : ℕ → GiveRefusal → Type 0
  GiveHolds = refusals_of_give e name

  first_give : (why : GiveRefusal) → why ≡ give_refusals.NoTray → (p : ℕ) (k : GiveRefusal) → GiveHolds p k → (0 < p) ⊎ ((p ≡ 0) × (k ≡ why))
  first_give why is zero k h = inr (refl, h.0 ∙ sym is)
  first_give why is (suc p) k h = inl (omega arith)

  second_give : (t : Tray) (error : GiveError) → tray_named e.trays name ≡ Some t → (give_step e.heap (replica_of t)).1 ≡ Err error
      → (p : ℕ) (k : GiveRefusal) → GiveHolds p k → (1 < p) ⊎ ((p ≡ 1) × (k ≡ give_refusals.Heap error))
  second_give t error there is zero k h = absurd (cc (h.1, there))
  second_give t error there is (suc zero) k h =
      let tray : h.0 ≡ t = cc (h.2, there) in
      let answer : (give_step e.heap (replica_of t)).1 ≡ Err h.1 = ap (λ x. (give_step e.heap (replica_of x)).1) (sym tray) ∙ h.4 in
      let equal : h.1 ≡ error = cc (answer, is) in
      inr (refl, h.3 ∙ ap give_refusals.Heap equal)
  second_give t error there is (suc (suc p)) k h = inl (omega arith)

  give_by : (t : Tray) → tray_named e.trays name ≡ Some t → (answer : Result Given GiveError) → (give_step e.heap (replica_of t)).1 ≡ answer
      → (why : GiveRefusal) → given_or_refused answer ≡ Err why → IsLeast GiveHolds why
  give_by t there (Ok given) is why h = cc
  give_by t there (Err error) is why h =
      let equal : give_refusals.Heap error ≡ why = cc in
      record {
        stage = 1;
        holds = (t, error, there, sym equal, is);
        least = λ p k held. subst (λ w. (1 < p) ⊎ ((p ≡ 1) × (k ≡ w))) equal (second_give t error there is p k held);
      }

  give_found_by : (f : Option Tray) → tray_named e.trays name ≡ f → (why : GiveRefusal) → (give_found f e).1 ≡ Err why → IsLeast GiveHolds why
  give_found_by None is why h =
      let equal : why ≡ give_refusals.NoTray = cc in
      record { stage = 0; holds = (equal, is); least = first_give why equal }
  give_found_by (Some t) is why h = give_by t is (give_step e.heap (replica_of t)).1 refl why h

  pub give-refused : (why : GiveRefusal) → (give_line_step e name).1 ≡ Err why → IsLeast GiveHolds why
  give-refused why h = give_found_by (tray_named e.trays name) refl why h

  none_of_give : (t : Tray) (given : Given) → tray_named e.trays name ≡ Some t → (give_step e.heap (replica_of t)).1 ≡ Ok given → (p : ℕ) (k : GiveRefusal) → GiveHolds p k → ⊥
  none_of_give t given there is zero k h = cc (h.1, there)
  none_of_give t given there is (suc zero) k h =
      let tray : h.0 ≡ t = cc (h.2, there) in
      let answer : (give_step e.heap (replica_of t)).1 ≡ Err h.1 = ap (λ x. (give_step e.heap (replica_of x)).1) (sym tray) ∙ h.4 in
      cc (answer, is)
  none_of_give t given there is (suc (suc p)) k h = h

  given_by : (t : Tray) → tray_named e.trays name ≡ Some t → (answer : Result Given GiveError) → (give_step e.heap (replica_of t)).1 ≡ answer
      → (given : Given) → given_or_refused answer ≡ Ok given → (p : ℕ) (k : GiveRefusal) → GiveHolds p k → ⊥
  given_by t there (Ok done) is given h = none_of_give t done there is
  given_by t there (Err error) is given h = cc

  given_found : (f : Option Tray) → tray_named e.trays name ≡ f → (given : Given) → (give_found f e).1 ≡ Ok given → (p : ℕ) (k : GiveRefusal) → GiveHolds p k → ⊥
  given_found None is given h = cc
  given_found (Some t) is given h = given_by t is (give_step e.heap (replica_of t)).1 refl given h

  pub give-accepted : (given : Given) → (give_line_step e name).1 ≡ Ok given → IsFaultless GiveHolds
  give-accepted given h = given_found (tray_named e.trays name) refl given h

  pub give-absent : tray_named e.trays name ≡ None → (give_line_step e name).0 ≡ e
  give-absent none = ap (λ (f : Option Tray). (give_found f e).0) none

  trays_by : (f : Option Tray) → (give_found f e).0.trays ≡ e.trays
  trays_by None = refl
  trays_by (Some t) = refl

  pub give-trays : (give_line_step e name).0.trays ≡ e.trays
  give-trays = trays_by (tray_named e.trays name)
