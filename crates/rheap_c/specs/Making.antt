-- What a call of C's does that makes an object with its values, by the state of the handle before and
-- after it. Where no heap is open it does nothing, with status 12.
use Rattle.std.specs.Prelude.{◌≡◌, ℕ, nat_le, nat_lt, Bool, true, false, if◌then◌else◌, List, length, map, Option, Some, None, Result}
use Rattle.std.specs.List.{list_all}
use Rattle.rh_layout.specs.declared.command.Operand.{Operand}
use Rattle.rh_layout.specs.declared.command.Reply.{Reply}
use Rattle.rh_layout.specs.declared.command.RootId.{RootId}
use Rattle.rh_layout.specs.declared.refusal.Refusal.{Refusal}
use Rattle.rh_layout.specs.declared.shape.Shape.{Shape}
use Rattle.rh_pace.specs.Making.{IsInsistedMake, IsPacedMake}
use Rattle.rh_pace.specs.Paced.{PacedState}
use Rattle.rheap_c.specs.declared.init.RheapInit.{RheapInit}
use Rattle.rheap_c.specs.Init.{operand_of}
use Rattle.rheap_c.specs.Told.{status_of}

-- a value is of one of the kinds 0 to 3, by which values are told
abbrev pub has_kind : RheapInit → Bool
has_kind v = nat_le v.kind 3

-- each of these values is
abbrev pub have_kinds : List RheapInit → Bool
have_kinds values = list_all has_kind values

-- what they mean, one after the other
abbrev pub operands_of : List RheapInit → List Operand
operands_of values = map operand_of values

-- The status by which values are refused that no heap is asked for, if they are: 7 where they are more
-- than an object has fields, and 20 where one is of a kind that there isn't.
abbrev pub values_fault : List RheapInit → Option ℕ
values_fault values =
    if nat_lt 4095 (length values) then Some 7
    else (if have_kinds values then None else Some 20)

-- What a heap does, by a relation of it before and after: it makes an object, or insists on it.
abbrev pub Makes : Type 1
Makes = PacedState → PacedState → ℕ → RootId → Shape → List Operand → Result Reply Refusal → Type 0

abbrev pub making : Bool → Makes
making false = IsPacedMake
making true = IsInsistedMake

-- The heap does so, and the status tells its answer; or nothing is done, with the status by which the
-- values are refused.
abbrev pub IsMadeUnless : Makes → Option ℕ → PacedState → PacedState → ℕ → RootId → Shape
    → List Operand → ℕ → Type 0
IsMadeUnless IsMake (Some why) old new owner dst shape operands status =
    (new ≡ old) × (status ≡ why)
IsMadeUnless IsMake None old new owner dst shape operands status =
    (told : Result Reply Refusal) × IsMake old new owner dst shape operands told
    × (status ≡ status_of told)

-- It does so with the values that C gives.
abbrev pub IsMadeWith : Makes → Option PacedState → Option PacedState → ℕ → RootId → Shape
    → List RheapInit → ℕ → Type 0
IsMadeWith IsMake None new owner dst shape values status = (new ≡ None) × (status ≡ 12)
IsMadeWith IsMake (Some old) new owner dst shape values status =
    (after : PacedState) × (new ≡ Some after)
    × IsMadeUnless IsMake (values_fault values) old after owner dst shape (operands_of values)
    status
