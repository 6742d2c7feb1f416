-- What a call of C's does that makes an object with its values on a heap that grows, by its state
-- before and after it. Where none is open it does nothing, with status 12.
use Rattle.std.specs.Prelude.{◌≡◌, ℕ, Bool, true, false, List, Option, Some, None, Result}
use Rattle.rh_layout.specs.declared.command.Operand.{Operand}
use Rattle.rh_layout.specs.declared.command.Reply.{Reply}
use Rattle.rh_layout.specs.declared.command.RootId.{RootId}
use Rattle.rh_layout.specs.declared.refusal.Refusal.{Refusal}
use Rattle.rh_layout.specs.declared.shape.Shape.{Shape}
use Rattle.rh_growing.specs.Growing.{GrowingState}
use Rattle.rh_growing.specs.Making.{IsGrowingInsistedMake, IsGrowingMake}
use Rattle.rheap_c.specs.declared.init.RheapInit.{RheapInit}
use Rattle.rheap_c.specs.Making.{operands_of, values_fault}
use Rattle.rheap_c.specs.Told.{status_of}

-- What a heap that grows does, by a relation of it before and after: it makes an object, or insists
-- on it.
abbrev pub GrownMakes : Type 1
GrownMakes = GrowingState → GrowingState → ℕ → RootId → Shape → List Operand
    → Result Reply Refusal → Type 0

-- it makes one, whatever the allocator answered
abbrev pub MakesOnce : GrowingState → GrowingState → ℕ → RootId → Shape → List Operand
    → Result Reply Refusal → Type 0
MakesOnce old new owner dst shape operands told =
    (given : Bool) × IsGrowingMake given old new owner dst shape operands told

-- it insists on one
abbrev pub InsistsOnMaking : GrowingState → GrowingState → ℕ → RootId → Shape → List Operand
    → Result Reply Refusal → Type 0
InsistsOnMaking old new owner dst shape operands told =
    (given : ℕ → Bool) × IsGrowingInsistedMake given old new owner dst shape operands told

abbrev pub growing_making : Bool → GrownMakes
growing_making false = MakesOnce
growing_making true = InsistsOnMaking

-- The heap does so, and the status tells its answer; or nothing is done, with the status by which the
-- values are refused.
abbrev pub IsGrownMadeUnless : GrownMakes → Option ℕ → GrowingState → GrowingState → ℕ → RootId
    → Shape → List Operand → ℕ → Type 0
IsGrownMadeUnless IsMake (Some why) old new owner dst shape operands status =
    (new ≡ old) × (status ≡ why)
IsGrownMadeUnless IsMake None old new owner dst shape operands status =
    (told : Result Reply Refusal) × IsMake old new owner dst shape operands told
    × (status ≡ status_of told)

-- It does so with the values that C gives.
abbrev pub IsGrownMadeWith : GrownMakes → Option GrowingState → Option GrowingState → ℕ → RootId
    → Shape → List RheapInit → ℕ → Type 0
IsGrownMadeWith IsMake None new owner dst shape values status = (new ≡ None) × (status ≡ 12)
IsGrownMadeWith IsMake (Some old) new owner dst shape values status =
    (after : GrowingState) × (new ≡ Some after)
    × IsGrownMadeUnless IsMake (values_fault values) old after owner dst shape
    (operands_of values) status
