-- A tray that takes a name is the one of that name, and the others stay.
use Rattle.std.proofs.Common.{◌≡◌, ◌≢◌, ℕ, Bool, true, false, cond, if◌then◌else◌, List, [], ◌∷◌, ◌++◌, Some, None, is_some, refl, sym, ◌∙◌, ap, subst}
use Rattle.std.specs.Map.{keys_of}
use Rattle.std.specs.Str.{bytes_eq}
use Rattle.std.specs.Cmp.Lexicographic.{nat_list_eq_equiv}
use Rattle.std.proofs.lemmas.Slice.Eq.{bytes_eq-Decides}
use Rattle.rh_engine.specs.Trays.{Tray, Trays, tray_named, trays_with}

false_by : (x y : List ℕ) → x ≢ y → (b : Bool) → bytes_eq x y ≡ b → bytes_eq x y ≡ false
false_by x y apart true h = absurd (apart ((bytes_eq-Decides x y).0 h))
false_by x y apart false h = h

false_from : (x y : List ℕ) → x ≢ y → bytes_eq x y ≡ false
false_from x y apart = false_by x y apart (bytes_eq x y) refl

module _ (name : List ℕ) (t : Tray) where
  there_by : (b : Bool) (e : List ℕ × Tray) (es more : Trays) → bytes_eq name e.0 ≡ b → tray_named more name ≡ Some t
      → tray_named (cond b ((e.0, t) ∷ es) (e ∷ more)) name ≡ Some t
  there_by true e es more h same = ap (λ c. cond c (Some t) (tray_named es name)) h
  there_by false e es more h same = ap (λ c. cond c (Some e.1) (tray_named more name)) h ∙ same

  pub tray_named-there : (trays : Trays) → tray_named (trays_with trays name t) name ≡ Some t
  tray_named-there [] = ap (λ c. cond c (Some t) None) (nat_list_eq_equiv.refl name)
  tray_named-there (e ∷ es) = there_by (bytes_eq name e.0) e es (trays_with es name t) refl (tray_named-there es)

  other_by : (other : List ℕ) → other ≢ name → (b : Bool) (e : List ℕ × Tray) (es more : Trays) → bytes_eq name e.0 ≡ b
      → tray_named more other ≡ tray_named es other
      → tray_named (cond b ((e.0, t) ∷ es) (e ∷ more)) other ≡ tray_named (e ∷ es) other
  other_by other apart true e es more h same =
      let differs : bytes_eq other e.0 ≡ false = subst (λ n. bytes_eq other n ≡ false) ((bytes_eq-Decides name e.0).0 h) (false_from other name apart) in
      ap (λ c. cond c (Some t) (tray_named es other)) differs ∙ sym (ap (λ c. cond c (Some e.1) (tray_named es other)) differs)
  other_by other apart false e es more h same = ap (λ found. cond (bytes_eq other e.0) (Some e.1) found) same

  pub tray_named-other : (trays : Trays) (other : List ℕ) → other ≢ name → tray_named (trays_with trays name t) other ≡ tray_named trays other
  tray_named-other [] other apart = ap (λ c. cond c (Some t) None) (false_from other name apart)
  tray_named-other (e ∷ es) other apart =
      other_by other apart (bytes_eq name e.0) e es (trays_with es name t) refl (tray_named-other es other apart)

  abbrev names_after : Bool → List (List ℕ) → List (List ℕ)
  names_after there names = if there then names else names ++ name ∷ []

  pushed_by : (b : Bool) (first : List ℕ) (names : List (List ℕ)) → first ∷ names_after b names ≡ names_after b (first ∷ names)
  pushed_by true first names = refl
  pushed_by false first names = refl

  names_by : (b : Bool) (e : List ℕ × Tray) (es more : Trays) → keys_of more ≡ names_after (is_some (tray_named es name)) (keys_of es)
      → keys_of (cond b ((e.0, t) ∷ es) (e ∷ more)) ≡ names_after (is_some (cond b (Some e.1) (tray_named es name))) (e.0 ∷ keys_of es)
  names_by true e es more same = refl
  names_by false e es more same =
      ap (λ names. e.0 ∷ names) same ∙ pushed_by (is_some (tray_named es name)) e.0 (keys_of es)

  -- a name that is there keeps its place, and a new one goes last
  pub keys_of-trays_with : (trays : Trays) → keys_of (trays_with trays name t) ≡ (if is_some (tray_named trays name) then keys_of trays else keys_of trays ++ name ∷ [])
  keys_of-trays_with [] = refl
  keys_of-trays_with (e ∷ es) = names_by (bytes_eq name e.0) e es (trays_with es name t) (keys_of-trays_with es)
