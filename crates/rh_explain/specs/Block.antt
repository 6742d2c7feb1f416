-- How a line and the carets under it are shown.
use Rattle.std.specs.Prelude.{ℕ, ◌+◌, ◌-◌, ◌/◌, ◌%◌, Bool, List, [], ◌∷◌, take, drop, nat_lt, if◌then◌else◌, codes}
use Rattle.std.specs.List.{flat_map}
use Rattle.rh_text.specs.Parts.{is_printable}

-- a digit of base 16
abbrev pub hex_digit : ℕ → ℕ
hex_digit n = if nat_lt n 10 then 48 + n else 87 + n

-- a byte as it is shown: itself where it is printable, and else \xNN
abbrev pub shown_byte : ℕ → List ℕ
shown_byte b =
    if is_printable b then b ∷ [] else 92 ∷ 120 ∷ hex_digit (b / 16) ∷ hex_digit (b % 16) ∷ []

-- bytes as they are shown
abbrev pub shown : List ℕ → List ℕ
shown bytes = flat_map shown_byte bytes

-- the mark where a line is cut
abbrev pub cut_mark : Bool → List ℕ
cut_mark is = if is then codes ".." else []

-- the bytes of a line from one column to another, as they are shown
abbrev pub shown_from : List ℕ → ℕ → ℕ → List ℕ
shown_from line from to = shown (take (to - from) (drop from line))
