-- What a part of a dump's line says.
use Rattle.std.specs.Prelude.{ℕ, ℤ, Bool, true, false, List, [], ◌∷◌, Option, Some, None, nat_le, nat_lt, ◌==◌, ◌&&◌, if◌then◌else◌, codes}
use Rattle.std.specs.Str.{bytes_eq}
use Rattle.rh_layout.specs.declared.command.RootId.{RootId}
use Rattle.rh_layout.specs.Word.{is_whole}
use Rattle.rh_text.specs.Number.{number_of, integer_of}
use Rattle.rh_text.specs.Parts.{◌>>=◌, first_and_rest}
use Rattle.rh_text.specs.Root.{root_of}
use Rattle.rh_dump.specs.declared.reading.due.Version.{Version}
use Rattle.rh_dump.specs.declared.reading.due.Version.TheVariants.{One, Two}

-- the number up to this limit of which the part is the decimal
unfoldable pub number_up_to : ℕ → List ℕ → Option ℕ
number_up_to limit part = do
  n ← number_of part
  if nat_le n limit then Some n else None

-- the whole number that has a word and of which the part is the decimal
unfoldable pub whole_of : List ℕ → Option ℤ
whole_of part = do
  n ← integer_of part
  if is_whole n then Some n else None

-- the root that the part says, where its owner is below 16 and its slot below 256
unfoldable pub small_root_of : List ℕ → Option RootId
small_root_of part = do
  root ← root_of part
  if nat_lt root.owner 16 && nat_lt root.slot 256 then Some root else None

-- what stands after the @ with which the part begins
abbrev pub after_at : List ℕ → Option (List ℕ)
after_at [] = None
after_at (b ∷ bs) = if b == 64 then Some bs else None

-- whether the first part is `raw`, in a version that has raw objects, and the parts after it
abbrev pub kind_and_rest : Version → List (List ℕ) → Bool × List (List ℕ)
kind_and_rest One parts = (false, parts)
kind_and_rest Two [] = (false, [])
kind_and_rest Two (part ∷ parts) =
    if bytes_eq part (codes "raw") then (true, parts) else (false, part ∷ parts)

-- The start of an object's line: what stands after the @ of the first part, whether `raw` stands
-- after it, the next part, and the parts after that.
unfoldable pub object_head : Version → List (List ℕ)
    → Option (List ℕ × Bool × List ℕ × List (List ℕ))
object_head version parts = do
  first ← first_and_rest parts
  own ← after_at first.0
  fields ← first_and_rest (kind_and_rest version first.1).1
  Some (own, (kind_and_rest version first.1).0, fields.0, fields.1)

-- the number after the @ with which the part begins
unfoldable pub reference_of : List ℕ → Option ℕ
reference_of part = do
  digits ← after_at part
  number_of digits
