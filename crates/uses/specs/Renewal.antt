-- A program that makes one object after the other in one root.
use Rattle.std.specs.Prelude.{ℕ, List}
use Rattle.rh_layout.specs.declared.value.Value.{Value}
use Rattle.rh_model.specs.Plain.{PlainHeap, PlainObject}
use Rattle.rh_pace.specs.Paced.{PacedState}
use Rattle.rh_pace.specs.PlainBounds.{AreBounded, ServesWithin}
use Rattle.rh_pace.specs.Worked.{object_calls}

-- the plain heap with one owner, who has one slot
abbrev pub with_one_root : List Value → List PlainObject → PlainHeap
with_one_root roots objects = record { owners = 1; slots = 1; roots = roots; objects = objects }

-- The heap serves so many further of these calls, as a plain heap on which they are bounded.
pub record Renews (n : ℕ) (s : PacedState) : Type 0 where
  pub roots : List Value
  pub objects : List PlainObject
  pub live : ℕ
  pub serves : ServesWithin live 10 n (with_one_root roots objects) s
  pub bounded : AreBounded live 10 (with_one_root roots objects) (object_calls n)
