-- What is found of a part, or of a line of parts, decides which of their faults comes first.
use Rattle.std.specs.Prelude.{◌≡◌, ℕ, ◌<◌, ◌⊎◌, Bool, false, List, [], ◌∷◌, ◌++◌, length, Option, Some, None, Result, Ok, Err}
use Rattle.rh_text.specs.lemmas.Stages.{Judges}
use Rattle.rh_syntax.specs.Faults.{Sort, each_part}
use Rattle.rh_syntax.specs.declared.fault.Kind.{Kind}
use Rattle.rh_syntax.specs.declared.fault.Kind.TheVariants.{Long, Cut, Form}
use Rattle.rh_explain.specs.declared.part.Misfit.{Misfit}
use Rattle.rh_explain.specs.declared.why.Why.{Why}
use Rattle.rh_explain.specs.Explain.{class}

-- a misfit, as what reading gives
abbrev pub misfit_verdict : Option Misfit → Result (Unit {0}) Kind
misfit_verdict None = Ok tt
misfit_verdict (Some misfit) = Err (class misfit.why)

-- these parts are what they should be: what judges the others judges all
abbrev pub Passes : List Sort → List (List ℕ) → Type 0
Passes sorts ahead = (due : List Sort) (left : List (List ℕ)) (read : Result (Unit {0}) Kind)
    → Judges (each_part due left) read → Judges (each_part (sorts ++ due) (ahead ++ left)) read

-- this part isn't what it should be: that is the first fault, whatever stands after it
abbrev pub Fails : Sort → List ℕ → Kind → Type 0
Fails sort part kind = (due : List Sort) (left : List (List ℕ))
    → Judges {A = Unit {0}} (each_part (sort ∷ due) (part ∷ left)) (Err kind)

-- what was found of a part
abbrev pub Decided : Sort → List ℕ → Option Why → Type 0
Decided sort part None = Passes (sort ∷ []) (part ∷ [])
Decided sort part (Some why) = Fails sort part (class why)

-- the first part that isn't what it should be
pub record FailsAt (sorts : List Sort) (parts : List (List ℕ)) (index : ℕ) (kind : Kind) : Type 0 where
  pub done : List Sort
  pub sort : Sort
  pub due : List Sort
  pub ahead : List (List ℕ)
  pub part : List ℕ
  pub behind : List (List ℕ)
  pub sorts_are : sorts ≡ done ++ sort ∷ due
  pub parts_are : parts ≡ ahead ++ part ∷ behind
  pub even : length done ≡ length ahead
  pub index_is : index ≡ length ahead
  pub passes : Passes done ahead
  pub fails : Fails sort part kind

-- the parts are too few, so that the first that is missing has this number, or too many, so that
-- the first that is too many has
abbrev pub IsMiscounted : ℕ → ℕ → ℕ → Type 0
IsMiscounted due have index =
    ((have < due) × (index ≡ have)) ⊎ ((due < have) × (index ≡ due))

-- where a line of this form fails, and how: in the number of its parts, or else at a part
abbrev pub MisfitAt : List Sort → List (List ℕ) → ℕ → Kind → Type 0
MisfitAt form parts index kind =
    ((kind ≡ Form) × IsMiscounted (length form) (length parts) index) ⊎ FailsAt form parts index kind

-- the line's number is too great, or it has too many bytes
abbrev pub IsLong : ℕ → List ℕ → Type 0
IsLong n bytes = (1048576 < n) ⊎ (256 < length bytes)

-- the fault of a line that is over a limit, or has no line end
abbrev pub IsOverLimit : ℕ → List ℕ → Bool → Kind → Type 0
IsOverLimit n bytes ended kind =
    ((kind ≡ Long) × IsLong n bytes) ⊎ ((kind ≡ Cut) × (¬ IsLong n bytes) × (ended ≡ false))
