-- What several reads gave, one after the other.
use Rattle.std.proofs.Common.{◌≡◌, ℕ, ◌<◌, ◌≤◌, List, ◌++◌, length, Option, Some, None, Result, Err, refl, sym, ap, ◌∙◌, append_assoc}
use Rattle.std.specs.Io.KnownBytes.{Consumes, Keeps}
use Rattle.rh_text.specs.declared.input.InputFault.{InputFault}
use Rattle.rh_text.specs.declared.input.InputFault.TheVariants.{Read, Long, OutOfMemory}
use Rattle.rh_text.specs.Input.{ReadEnds}

pub Consumes-then : (a b c : Option (List ℕ)) (x y : List ℕ) → Consumes a b x → Consumes b c y → Consumes a c (x ++ y)
Consumes-then None b c x y p q = tt
Consumes-then (Some xs) None c x y p q = absurd p
Consumes-then (Some xs) (Some ys) None x y p q = absurd q
Consumes-then (Some xs) (Some ys) (Some zs) x y p q = p ∙ ap (λ (t : List ℕ). x ++ t) q ∙ sym (append_assoc x y zs)

pub Consumes-keeps : (a b c : Option (List ℕ)) (x : List ℕ) → Consumes a b x → Keeps b c → Consumes a c x
Consumes-keeps None b c x p q = tt
Consumes-keeps (Some xs) None c x p q = absurd p
Consumes-keeps (Some xs) (Some ys) None x p q = absurd q
Consumes-keeps (Some xs) (Some ys) (Some zs) x p q = p ∙ ap (λ (t : List ℕ). x ++ t) (sym q)

-- an end with too many bytes, or where memory was refused
pub ends_with : {X : Type 0} (view : X → List ℕ) (fault : InputFault) (bytes : List ℕ) (left : Option (List ℕ)) → (◌≡◌ {A = Result (Unit {0}) InputFault} (Err fault) (Err Long) → 16777216 < length bytes)
    → (◌≡◌ {A = Result (Unit {0}) InputFault} (Err fault) (Err OutOfMemory) → length bytes ≤ 16777216) → ¬ (◌≡◌ {A = Result (Unit {0}) InputFault} (Err fault) (Err Read)) → ReadEnds view (Err fault) bytes left
ends_with view Read bytes left long refused never = absurd (never refl)
ends_with view Long bytes left long refused never = long refl
ends_with view OutOfMemory bytes left long refused never = refused refl
