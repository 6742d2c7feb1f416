-- What a plain heap, which never moves its objects, makes of an object with the values that C gives.
use Rattle.std.specs.Prelude.{◌≡◌, ◌⊎◌, ℕ, true, false, List, Option, Some, None, Result}
use Rattle.rh_layout.specs.declared.command.Reply.{Reply}
use Rattle.rh_layout.specs.declared.command.RootId.{RootId}
use Rattle.rh_layout.specs.declared.refusal.Refusal.{Refusal}
use Rattle.rh_layout.specs.declared.shape.Shape.{Shape}
use Rattle.rh_model.specs.Plain.{PlainHeap}
use Rattle.rh_mutator.specs.Mutator.{MutatorState, StandsFor}
use Rattle.rh_core.specs.Making.{plain_make_step}
use Rattle.rheap_c.specs.declared.init.RheapInit.{RheapInit}
use Rattle.rheap_c.specs.Making.{operands_of, values_fault}
use Rattle.rheap_c.specs.Runs.{is_limit_status}
use Rattle.rheap_c.specs.Told.{status_of}

-- the status by which values are refused that no heap is asked for, or else that of an answer
abbrev pub status_unless : Option ℕ → Result Reply Refusal → ℕ
status_unless (Some why) answer = why
status_unless None answer = status_of answer

-- the heap as it was, where values are refused so, or else the one after it
abbrev pub plain_unless_fault : Option ℕ → PlainHeap → PlainHeap → PlainHeap
plain_unless_fault (Some why) p after = p
plain_unless_fault None p after = after

-- the status that a plain heap gives, and what it is then
abbrev pub plain_made_status : PlainHeap → ℕ → RootId → Shape → List RheapInit → ℕ
plain_made_status p owner dst shape values =
    status_unless (values_fault values) (plain_make_step p owner dst shape (operands_of values)).1

abbrev pub plain_after_made : PlainHeap → ℕ → RootId → Shape → List RheapInit → PlainHeap
plain_after_made p owner dst shape values =
    plain_unless_fault (values_fault values) p
    (plain_make_step p owner dst shape (operands_of values)).0

-- The status is the plain heap's, or that of the values, and what is left stands for that after it; or the status is that of
-- a limit, where the plain heap makes the object, and what is left stands for it as it was.
abbrev pub IsMadeAsOnPlain : MutatorState → PlainHeap → ℕ → RootId → Shape → List RheapInit → ℕ
    → Type 0
IsMadeAsOnPlain left p owner dst shape values status =
    ((is_limit_status status ≡ false) × (status ≡ plain_made_status p owner dst shape values)
    × StandsFor left (plain_after_made p owner dst shape values))
    ⊎ ((is_limit_status status ≡ true) × (plain_made_status p owner dst shape values ≡ 0)
    × StandsFor left p)
