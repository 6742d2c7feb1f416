-- The names of trays.
use Rattle.std.specs.Prelude.{◌≡◌, ℕ, ◌-◌, ◌≤◌, ◌⊎◌, Bool, false, nat_le, ◌==◌, ◌&&◌, ◌||◌, if◌then◌else◌, List, [], ◌∷◌, ◌++◌, length, replicate, Option, Some, None}
use Rattle.std.specs.List.{list_all, AllByRecursion}

-- a letter a to z
abbrev pub is_letter : ℕ → Bool
is_letter b = nat_le 97 b && nat_le b 122

-- a letter a to z, a digit, or `_`
abbrev pub is_name_byte : ℕ → Bool
is_name_byte b = is_letter b || (nat_le 48 b && nat_le b 57) || b == 95

-- whether these bytes are the name of a tray
unfoldable pub is_tray_name : List ℕ → Bool
is_tray_name [] = false
is_tray_name (first ∷ rest) =
    is_letter first && nat_le (length rest) 15 && list_all is_name_byte rest

-- the name that a part says
abbrev pub tray_name_of : List ℕ → Option (List ℕ)
tray_name_of part = if is_tray_name part then Some part else None

-- a byte from a to z
abbrev pub IsLetter : ℕ → Type 0
IsLetter b = (97 ≤ b) × (b ≤ 122)

-- a byte from a to z or from 0 to 9, or `_`
abbrev pub IsNameByte : ℕ → Type 0
IsNameByte b = IsLetter b ⊎ ((48 ≤ b) × (b ≤ 57)) ⊎ (b ≡ 95)

-- The bytes are the name of a tray: a letter, and then at most 15 letters, digits or `_`.
abbrev pub IsTrayName : List ℕ → Type 0
IsTrayName [] = ⊥
IsTrayName (first ∷ rest) =
    IsLetter first × (length rest ≤ 15) × AllByRecursion IsNameByte rest

-- the bytes of a name, and zeros up to 16
abbrev pub padded : List ℕ → List ℕ
padded name = name ++ replicate (16 - length name) 0
