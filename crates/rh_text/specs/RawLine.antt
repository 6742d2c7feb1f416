-- The raw lines of a text: what stands between its line ends.
use Rattle.std.specs.Prelude.{ℕ, Bool, true, false, List, [], ◌∷◌, ◌++◌, ◌==◌, if◌then◌else◌}

-- a line before it is read: its bytes without the line end, and whether it has one
pub record RawLine : Type 0 where
  pub bytes : List ℕ
  pub ended : Bool

-- one byte before the first line
abbrev pub onto_line : ℕ → List RawLine → List RawLine
onto_line b [] = record { bytes = b ∷ []; ended = false } ∷ []
onto_line b (l ∷ ls) = record { bytes = b ∷ l.bytes; ended = l.ended } ∷ ls

-- the raw lines of a text
abbrev pub lines_of : List ℕ → List RawLine
lines_of [] = []
lines_of (b ∷ bs) =
    if b == 10 then record { bytes = []; ended = true } ∷ lines_of bs else onto_line b (lines_of bs)

-- the bytes of a raw line, and its line end where it has one
abbrev pub raw_text : RawLine → List ℕ
raw_text line = if line.ended then line.bytes ++ 10 ∷ [] else line.bytes
