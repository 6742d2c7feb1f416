-- What is read as the name of a tray is one, and each name is read as itself.
use Rattle.std.proofs.Common.{◌≡◌, ℕ, ◌≤◌, ◌⊎◌, inl, inr, Bool, true, false, ◌==◌, ◌&&◌, ◌||◌, if◌then◌else◌, List, [], ◌∷◌, length, Some, None, refl, sym, ap, subst}
use Rattle.std.specs.Bool.{Decides}
use Rattle.std.specs.Prelude.{nat_le}
use Rattle.std.specs.List.{list_all, AllByRecursion}
use Rattle.std.proofs.lemmas.Bool.{leb-true, le-leb, false≢true}
use Rattle.std.proofs.lemmas.Bool.Decides.{Decides-and, Decides-or, Decides-like, Decides-eqb}
use Rattle.rh_syntax.specs.TrayName.{is_letter, is_name_byte, is_tray_name, tray_name_of, IsLetter, IsNameByte, IsTrayName}

-- a byte between two others
pub in_range-Decides : (low high b : ℕ) → Decides (nat_le low b && nat_le b high) ((low ≤ b) × (b ≤ high))
in_range-Decides low high b = Decides-and (nat_le low b) (nat_le b high) (leb-true low b, le-leb low b) (leb-true b high, le-leb b high)

is_letter-Decides : (b : ℕ) → Decides (is_letter b) (IsLetter b)
is_letter-Decides b = in_range-Decides 97 122 b

grouped_right : {P Q R : Type 0} → (P ⊎ Q) ⊎ R → P ⊎ Q ⊎ R
grouped_right (inl (inl p)) = inl p
grouped_right (inl (inr q)) = inr (inl q)
grouped_right (inr r) = inr (inr r)

grouped_left : {P Q R : Type 0} → P ⊎ Q ⊎ R → (P ⊎ Q) ⊎ R
grouped_left (inl p) = inl (inl p)
grouped_left (inr (inl q)) = inl (inr q)
grouped_left (inr (inr r)) = inr r

is_name_byte-Decides : (b : ℕ) → Decides (is_name_byte b) (IsNameByte b)
is_name_byte-Decides b =
    let digit = nat_le 48 b && nat_le b 57 in
    Decides-like (is_name_byte b) grouped_right grouped_left
    (Decides-or (is_letter b || digit) (b == 95) (Decides-or (is_letter b) digit (is_letter-Decides b) (in_range-Decides 48 57 b)) (Decides-eqb b 95))

are_name_bytes-Decides : (bytes : List ℕ) → Decides (list_all is_name_byte bytes) (AllByRecursion IsNameByte bytes)
are_name_bytes-Decides [] = (λ e. tt, λ h. refl)
are_name_bytes-Decides (b ∷ bs) = Decides-and (is_name_byte b) (list_all is_name_byte bs) (is_name_byte-Decides b) (are_name_bytes-Decides bs)

is_tray_name-Decides : (part : List ℕ) → Decides (is_tray_name part) (IsTrayName part)
unfolding is_tray_name
is_tray_name-Decides [] = (λ e. false≢true e, λ h. absurd h)
is_tray_name-Decides (first ∷ rest) =
    let letter = is_letter first in
    let short = nat_le (length rest) 15 in
    let both = Decides-and (letter && short) (list_all is_name_byte rest) (Decides-and letter short (is_letter-Decides first) (leb-true (length rest) 15, le-leb (length rest) 15)) (are_name_bytes-Decides rest) in
    (λ e. let h = both.0 e in (h.0.0, h.0.1, h.1), λ h. both.1 ((h.0, h.1), h.2))

read_by : (part name : List ℕ) (x : Bool) → is_tray_name part ≡ x → (if x then Some part else None) ≡ Some name → (name ≡ part) × IsTrayName name
read_by part name true is h =
    let same : part ≡ name = cc in
    (sym same, subst IsTrayName same ((is_tray_name-Decides part).0 is))
read_by part name false is h = cc

-- what is read is the part itself, and a name
pub name-from_read : (part name : List ℕ) → tray_name_of part ≡ Some name → (name ≡ part) × IsTrayName name
name-from_read part name h = read_by part name (is_tray_name part) refl h

-- a name is read as itself
pub read-from_name : (name : List ℕ) → IsTrayName name → tray_name_of name ≡ Some name
read-from_name name h = ap (λ (b : Bool). if b then Some name else None) ((is_tray_name-Decides name).1 h)
