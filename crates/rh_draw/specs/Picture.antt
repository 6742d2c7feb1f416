-- What is written of a picture.
use Rattle.std.specs.Prelude.{◌≡◌, ℕ, List, ◌++◌, Option, Result, Ok, Err, codes}
use Rattle.std.specs.Io.KnownBytes.{Appends, Keeps}
use Rattle.rh_text.specs.Output.{AppendsLess}
use Rattle.rh_draw.specs.declared.error.DrawError.{DrawError}
use Rattle.rh_draw.specs.declared.error.DrawError.TheVariants as errors

-- a text that ends as the one element of a picture does: nothing was left out at its end
abbrev pub IsWhole : List ℕ → Type 0
IsWhole text = (before : List ℕ) × (text ≡ before ++ codes "</svg>\n")

-- How writing this text ends: all of it stands behind what the writer had; or a write failed, and a
-- prefix of it does, and not all; or memory was refused, and nothing was written.
abbrev pub WritesText : {X : Type 0} → List ℕ → Result X DrawError → Option (List ℕ)
    → Option (List ℕ) → Type 0
WritesText text (Ok x) old new = Appends old new text
WritesText text (Err errors.Write) old new = AppendsLess old new text
WritesText text (Err errors.OutOfMemory) old new = Keeps old new

-- A whole text is written, or what of it is left out is told.
abbrev pub Draws : {X : Type 0} → Result X DrawError → Option (List ℕ) → Option (List ℕ) → Type 0
Draws result old new = (text : List ℕ) × IsWhole text × WritesText text result old new
