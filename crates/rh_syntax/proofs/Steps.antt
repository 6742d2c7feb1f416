-- What the steps of a reader found: the first part, or a fault.
use Rattle.std.proofs.Common.{refl, ◌≡◌, ℕ, List, [], ◌∷◌, Option, Some, None, Result, Err, ap, sym, ◌∙◌}
use Rattle.std.specs.Result.{IsErrAnd}
use Rattle.std.proofs.lemmas.Result.{err_from_is_err_and}
use Rattle.rh_text.specs.Parts.{first_and_rest}

-- the parts that have this first part and these others
abbrev pub with_first : Option (List ℕ × List (List ℕ)) → List (List ℕ)
with_first None = []
with_first (Some cut) = cut.0 ∷ cut.1

with_first-first_and_rest : (parts : List (List ℕ)) → parts ≡ with_first (first_and_rest parts)
with_first-first_and_rest [] = refl
with_first-first_and_rest (part ∷ others) = refl

-- parts are those that were found in them
pub parts_from_first : (parts : List (List ℕ)) (found : Option (List ℕ × List (List ℕ))) → found ≡ first_and_rest parts
    → parts ≡ with_first found
parts_from_first parts found e = with_first-first_and_rest parts ∙ ap with_first (sym e)

-- what a `?` passes on is the fault that it met
pub passed_on : {A E : Type 0} (result : Result A E) (fault : E) → IsErrAnd result (λ e. e ≡ fault) → result ≡ Err fault
passed_on result fault is = let p = err_from_is_err_and result is in rw (p.1, p.2) refl
