-- The line in which a spot stands, and the part of it that is shown.
use Rattle.std.specs.Prelude.{◌≡◌, ◌≤◌, ℕ, true, List, length}
use Rattle.rh_text.specs.Parts.{parts_of, IsFormedLine}
use Rattle.rh_text.specs.RawLine.{RawLine}
use Rattle.rh_syntax.specs.declared.fault.Kind.{Kind}
use Rattle.rh_explain.specs.Explain.{class, part_faults_of, IsIllFormedAt, IsPartAt, IsFirstMisfit}
use Rattle.rh_explain.specs.Judging.{IsLong}
use Rattle.rh_explain.specs.declared.why.Why.{Why}
use Rattle.rh_explained.specs.declared.spot.Spot.{Spot}
use Rattle.rh_explained.specs.declared.told.Told.TheVariants.{Line}

-- the spot is one of the line of this number, which has these bytes, and its columns stand in it
abbrev pub IsInLine : ℕ → List ℕ → Spot → Type 0
IsInLine number bytes spot =
    (spot.number ≡ number) × (spot.line.now ≡ bytes)
    × (spot.begins ≤ spot.ends) × (spot.ends ≤ length spot.line.now)

-- the spot shows the part at which a raw line of a trace fails by this kind of fault: where the line
-- isn't well formed, the text before its columns is the beginning of a well formed line, and no such
-- line goes on as far as their end; where it is, they are those of the first part that doesn't fit
pub record ShowsFault (number : ℕ) (raw : RawLine) (kind : Kind) (spot : Spot) : Type 0 where
  pub why : Why
  pub told : spot.told ≡ Line why
  pub kind_is : class why ≡ kind
  pub ill : (¬ IsLong number raw.bytes) → raw.ended ≡ true → (¬ IsFormedLine raw.bytes) → IsIllFormedAt raw.bytes spot.begins spot.ends
  pub place : (¬ IsLong number raw.bytes) → raw.ended ≡ true → IsFormedLine raw.bytes → (index : ℕ) × IsPartAt raw.bytes index spot.begins spot.ends × IsFirstMisfit (part_faults_of number) (parts_of raw.bytes) index kind
