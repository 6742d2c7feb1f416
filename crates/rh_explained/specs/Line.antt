-- The line of a text that is shown.
use Rattle.std.specs.Prelude.{ℕ, ◌-◌, false, List, [], get_or}
use Rattle.rh_text.specs.RawLine.{RawLine, lines_of}

-- a line that isn't there
abbrev pub no_line : RawLine
no_line = record { bytes = []; ended = false }

-- the line of a text of this number, from 1; an empty one without a line end where it has none
abbrev pub line_at : ℕ → List ℕ → RawLine
line_at number text = get_or (lines_of text) (number - 1) no_line
