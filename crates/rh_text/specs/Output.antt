-- What a call appended to a writer.
use Rattle.std.specs.Prelude.{◌≡◌, ℕ, ◌<◌, Option, List, ◌++◌, length}
use Rattle.std.specs.Io.KnownBytes.{Appends}

-- the known bytes grow by a prefix of the text, which may be all of it
abbrev pub AppendsPrefix : Option (List ℕ) → Option (List ℕ) → List ℕ → Type 0
AppendsPrefix old new text =
    (prefix : List ℕ) × (rest : List ℕ) × (text ≡ prefix ++ rest) × Appends old new prefix

-- the same, and some of the text isn't written
abbrev pub AppendsLess : Option (List ℕ) → Option (List ℕ) → List ℕ → Type 0
AppendsLess old new text =
    (prefix : List ℕ) × (rest : List ℕ) × (text ≡ prefix ++ rest) × (0 < length rest)
    × Appends old new prefix
