-- What a reader gave.
use Rattle.std.specs.Prelude.{◌≡◌, ℕ, ◌<◌, ◌≤◌, ◌⊎◌, Option, List, length, Result, Ok, Err}
use Rattle.std.specs.Io.KnownBytes.{Consumes, IsAtEnd}
use Rattle.rh_text.specs.declared.input.InputFault.{InputFault}
use Rattle.rh_text.specs.declared.input.InputFault.TheVariants.{Read, Long, OutOfMemory}

-- How reading ends, by the bytes that the reader gave: with all of them, seen by view; with too
-- many; or with a read that failed or want of memory, and not too many.
abbrev pub ReadEnds : {X : Type 0} → (X → List ℕ) → Result X InputFault → List ℕ → Option (List ℕ)
    → Type 0
ReadEnds view (Ok x) bytes left = (view x ≡ bytes) × (length bytes ≤ 16777216) × IsAtEnd left
ReadEnds view (Err Long) bytes left = 16777216 < length bytes
ReadEnds view (Err Read) bytes left = length bytes ≤ 16777216
ReadEnds view (Err OutOfMemory) bytes left = length bytes ≤ 16777216

-- the reader gave some bytes, and reading ends by these
abbrev pub ReadsAll : {X : Type 0} → Option (List ℕ) → Option (List ℕ) → (X → List ℕ)
    → Result X InputFault → Type 0
ReadsAll old new view result =
    (bytes : List ℕ) × Consumes old new bytes × ReadEnds view result bytes new

-- How reading ends that goes on to the end or past a limit: with all bytes that the reader gave,
-- seen by view, or with a read that failed before the limit was passed. Want of memory says nothing
-- of them, and no text is too long.
abbrev pub EndsPast : {X : Type 0} → ℕ → (X → List ℕ) → Result X InputFault → List ℕ
    → Option (List ℕ) → Type 0
EndsPast limit view (Ok x) bytes left =
    (view x ≡ bytes) × ((limit < length bytes) ⊎ IsAtEnd left)
EndsPast limit view (Err Read) bytes left = length bytes ≤ limit
EndsPast limit view (Err other) bytes left = Unit {0}

-- the reader gave some bytes, and reading past a limit ends by these
abbrev pub ReadsPast : {X : Type 0} → ℕ → Option (List ℕ) → Option (List ℕ) → (X → List ℕ)
    → Result X InputFault → Type 0
ReadsPast limit old new view result =
    (bytes : List ℕ) × Consumes old new bytes × EndsPast limit view result bytes new
