-- What a text begins with.
use Rattle.std.specs.Prelude.{◌≡◌, ℕ, List, ◌++◌}
use Rattle.rh_layout.specs.declared.command.Command.{Command}
use Rattle.rh_syntax.specs.Spelling.{CommandFits, command_text}

-- the text begins with this command line, and goes on so
abbrev pub BeginsWith : List ℕ → ℕ → Command → List ℕ → Type 0
BeginsWith text owner command rest =
    CommandFits owner command × (text ≡ command_text owner command ++ rest)
