-- A root in a text: OWNER.SLOT.
use Rattle.std.specs.Prelude.{ℕ, List, ◌∷◌, ◌++◌, Option, Some, decimal}
use Rattle.rh_layout.specs.declared.command.RootId.{RootId}
use Rattle.rh_text.specs.Number.{IsU32, number_of}
use Rattle.rh_text.specs.Parts.{cut_at, ◌>>=◌}

-- OWNER.SLOT
abbrev pub root_text : RootId → List ℕ
root_text root = decimal root.owner ++ 46 ∷ decimal root.slot

-- a root whose numbers have 32 bits
abbrev pub RootFits : RootId → Type 0
RootFits root = IsU32 root.owner × IsU32 root.slot

-- the root that a part says
unfoldable pub root_of : List ℕ → Option RootId
root_of part = do
  halves ← cut_at 46 part
  owner ← number_of halves.0
  slot ← number_of halves.1
  Some (record { owner = owner; slot = slot })
