-- A line read byte by byte is well formed where all its bytes are printable and none of its parts is empty.
use Rattle.std.proofs.Common.{ℕ, Bool, true, false, ◌&&◌, List, [], ◌∷◌}
use Rattle.std.specs.List.{list_all}
use Rattle.rh_text.specs.Parts.{is_printable, is_filled, parts_of}

-- no part is empty, but for the first where it goes on with one that isn't
abbrev pub others_filled : Bool → List (List ℕ) → Bool
others_filled true parts = list_all is_filled parts
others_filled false [] = true
others_filled false (part ∷ parts) = list_all is_filled parts

-- what is left of a line is well formed, where the part that it goes on with is empty or not
abbrev pub formed_after : Bool → List ℕ → Bool
formed_after part_empty rest = list_all is_printable rest && others_filled part_empty (parts_of rest)
