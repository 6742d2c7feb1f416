-- The definitions at work: the texts of all refusals of a command.
use Rattle.std.proofs.Common.{◌≡◌, [], ◌∷◌, refl}
use Rattle.std.specs.Prelude.{ℕ, List, map, codes}
use Rattle.std.specs.Fmt.{digits}
use Rattle.rh_layout.specs.declared.refusal.Refusal.{Refusal}
use Rattle.rh_layout.specs.declared.refusal.Refusal.TheVariants as refusals
use Rattle.rh_syntax.specs.CommandAnswers.{refused_text}

-- each refusal of a command, with its text
refused : List (Refusal × List ℕ)
refused =
    (refusals.NoRoot, codes "refused NoRoot")
    ∷ (refusals.NotYours, codes "refused NotYours")
    ∷ (refusals.NotObject, codes "refused NotObject")
    ∷ (refusals.NoField, codes "refused NoField")
    ∷ (refusals.RawField, codes "refused RawField")
    ∷ (refusals.IntRange, codes "refused IntRange")
    ∷ (refusals.FieldsRange, codes "refused FieldsRange")
    ∷ (refusals.SpaceFull 10 9, codes "refused SpaceFull need 10 free 9")
    ∷ (refusals.LogFull, codes "refused LogFull")
    ∷ (refusals.NumbersSpent, codes "refused NumbersSpent")
    ∷ []

refused_commands :
    map (λ (row : Refusal × List ℕ). refused_text row.0) refused
    ≡ map (λ (row : Refusal × List ℕ). row.1) refused
unfolding digits refused
refused_commands = refl
