-- What a call of C's does that stores values of all kinds in a row: a list of stores.
use Rattle.std.specs.Prelude.{◌≡◌, ℕ, Bool, true, false, List, [], ◌∷◌, Option, Some, None}
use Rattle.rh_layout.specs.declared.command.Command.{Command}
use Rattle.rh_layout.specs.declared.command.Command.TheVariants.{Store}
use Rattle.rh_layout.specs.declared.command.RootId.{RootId}
use Rattle.rheap_c.specs.declared.init.RheapInit.{RheapInit}
use Rattle.rheap_c.specs.Init.{operand_of}
use Rattle.rheap_c.specs.RootRows.{next_index}

-- the stores of values to the fields of an object, from one on
abbrev pub value_stores : ℕ → RootId → ℕ → List RheapInit → List (ℕ × Command)
value_stores owner object field [] = []
value_stores owner object field (value ∷ values) =
    (owner, Store object field (operand_of value))
    ∷ value_stores owner object (next_index field) values

-- A call that stores values so, where each is of a kind that there is; else it does nothing, with
-- status 20. Where no heap is open that is 12. A heap is of fixed sizes, or grows.
abbrev pub OfKinds : {S : Type 0} → Bool → Type 0 → Option S → Option S → ℕ → ℕ → Type 0
OfKinds true stores old new count status = stores
OfKinds false stores None new count status = (new ≡ None) × (count ≡ 0) × (status ≡ 12)
OfKinds false stores (Some old) new count status =
    (new ≡ Some old) × (count ≡ 0) × (status ≡ 20)
