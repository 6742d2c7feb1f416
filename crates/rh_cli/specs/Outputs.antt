-- Where the texts of a request go.
use Rattle.std.specs.Prelude.{◌≡◌, ◌≢◌, ⊤, ℕ, List, Option, Some, None, codes, if◌then◌else◌}
use Rattle.either.specs.declared.Either.{Either}
use Rattle.either.specs.declared.Either.TheVariants.{Left, Right}
use Rattle.rh_command_line.specs.Ask.{is_output}

-- A text for which this file is given goes to standard output, to a file, or nowhere.
abbrev pub GoesTo : {P F S : Type 0} → Option (List ℕ) → Either P (Either F S) → Type 0
GoesTo None (Left printer) = ⊥
GoesTo None (Right (Left file)) = ⊥
GoesTo None (Right (Right sink)) = ⊤
GoesTo (Some name) (Left printer) = name ≡ codes "-"
GoesTo (Some name) (Right (Left file)) = name ≢ codes "-"
GoesTo (Some name) (Right (Right sink)) = ⊥

-- the file of the answers, by those of the cycles and of the history: standard output, or none where
-- one of these goes there
abbrev pub answers_file : Option (List ℕ) → Option (List ℕ) → Option (List ℕ)
answers_file cycles history =
    if is_output cycles then None else (if is_output history then None else Some (codes "-"))
