-- The calls of a program in C on one handle of a heap that grows, one after the other.
use Rattle.std.specs.Prelude.{◌≡◌, List, [], ◌∷◌, Option, Some}
use Rattle.rh_model.specs.Plain.{PlainHeap}
use Rattle.rh_mutator.specs.Mutator.{StandsFor}
use Rattle.rh_growing.specs.Growing.{GrowingState}
use Rattle.rheap_c.specs.Grown.{AreGrownStored, AreGrownStoredInsisting, GrownCollects, GrownIncrements, IsGrownCompared, IsGrownDone, IsGrownInsisted, IsGrownLoaded, OnPaced}
use Rattle.rheap_c.specs.declared.handle.Rheap.{Rheap}
use Rattle.rheap_c.specs.Handle.{Calls}
use Rattle.rheap_c.specs.Runs.{Answer, Call, IsMade, plain_after_calls, TellAsPlain, with_same, with_status, with_value}
use Rattle.rheap_c.specs.Runs.Call.{Does, Loads, Compares, InsistsOn, CollectsNow, IncrementsNow, StoresInts, InsistsOnInts}

-- The call was made, with the heap before and after it, and with what it told. One that reads, or
-- tells numbers, does so of the heap inside.
abbrev pub IsGrownMade : Option GrowingState → Option GrowingState → Call → Answer → Type 0
IsGrownMade old new (Does owner command) a =
    IsGrownDone old new owner command a.status × (a ≡ with_status a.status)
IsGrownMade old new (Loads owner dst src field) a =
    IsGrownLoaded old new owner dst src field a.status a.value × (a ≡ with_value a.status a.value)
IsGrownMade old new (Compares owner r q) a =
    IsGrownCompared old new owner r q a.status a.same × (a ≡ with_same a.status a.same)
IsGrownMade old new (InsistsOn owner command) a =
    IsGrownInsisted old new owner command a.status × (a ≡ with_status a.status)
IsGrownMade old new CollectsNow a = GrownCollects old new a.status × (a ≡ with_status a.status)
IsGrownMade old new IncrementsNow a = GrownIncrements old new a.status × (a ≡ with_status a.status)
IsGrownMade old new (StoresInts owner object from numbers) a =
    AreGrownStored old new owner object from numbers a.status × (a ≡ with_status a.status)
IsGrownMade old new (InsistsOnInts owner object from numbers) a =
    AreGrownStoredInsisting old new owner object from numbers a.status
    × (a ≡ with_status a.status)
IsGrownMade old new call a = OnPaced (λ s t. IsMade s t call a) old new

-- these calls were made, each on what the one before it left
abbrev pub AreGrownMade : Option GrowingState → Option GrowingState → List Call → List Answer
    → Type 0
AreGrownMade old new [] [] = new ≡ old
AreGrownMade old new [] (a ∷ more) = ⊥
AreGrownMade old new (call ∷ calls) [] = ⊥
AreGrownMade old new (call ∷ calls) (a ∷ more) =
    (between : Option GrowingState) × IsGrownMade old between call a
    × AreGrownMade between new calls more

-- The heap that is left stands for what the plain heap is after the calls, and they told what the
-- plain heap answers.
pub record AreSeenAsPlain (new : Option GrowingState) (p : PlainHeap) (calls : List Call)
    (answers : List Answer) : Type 0 where
  pub left : GrowingState
  pub is : new ≡ Some left
  pub told : TellAsPlain p calls answers
  pub stands : StandsFor left.paced.heap.mutators (plain_after_calls p calls answers)

-- The call was made on a handle, whichever heap it keeps.
abbrev pub IsMadeOn : Rheap → Rheap → Call → Answer → Type 0
IsMadeOn old new call a =
    Calls (λ s t. IsMade s t call a) (λ s t. IsGrownMade s t call a) old new

-- so were these, each on what the one before it left
abbrev pub AreMadeOn : Rheap → Rheap → List Call → List Answer → Type 0
AreMadeOn old new [] [] =
    (new.fixed.state ≡ old.fixed.state) × (new.growing.state ≡ old.growing.state)
AreMadeOn old new [] (a ∷ more) = ⊥
AreMadeOn old new (call ∷ calls) [] = ⊥
AreMadeOn old new (call ∷ calls) (a ∷ more) =
    (between : Rheap) × IsMadeOn old between call a × AreMadeOn between new calls more
