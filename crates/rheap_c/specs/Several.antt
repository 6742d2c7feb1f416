-- What a call of C's does with several fields of one object, from one on, by the state of the handle
-- before and after it. Where no heap is open it does nothing, with status 12.
use Rattle.std.specs.Prelude.{◌≡◌, ◌≢◌, ◌⊎◌, ℕ, ℤ, List, length, Option, Some, None}
use Rattle.rh_layout.specs.declared.command.Command.{Command}
use Rattle.rh_layout.specs.declared.command.Command.TheVariants.{Load}
use Rattle.rh_layout.specs.declared.command.RootId.{RootId}
use Rattle.rh_layout.specs.declared.refusal.Refusal.{Refusal}
use Rattle.rh_layout.specs.declared.refusal.Refusal.TheVariants.{LogFull}
use Rattle.rh_layout.specs.Refusal.{rank_of}
use Rattle.rh_model.specs.Plain.{PlainHeap, step as plain_step}
use Rattle.rh_mutator.specs.Mutator.{StandsFor, graph_of}
use Rattle.rh_mutator.specs.LoadingAll.{AreLoaded, field_loads, number_told}
use Rattle.rh_mutator.specs.StoringAll.{first_refusal, number_stores, numbers_refusal}
use Rattle.rh_mutator.specs.Texts.{IsTextRead, fields_of_bytes}
use Rattle.rh_core.specs.StoringAll.{done_replies}
use Rattle.rh_pace.specs.Collecting.{collect_step}
use Rattle.rh_pace.specs.InTime.{paced_after, paced_replies}
use Rattle.rh_pace.specs.Paced.{PacedState, paced_step}
use Rattle.rh_pace.specs.PlainBounds.{plain_after}
use Rattle.rheap_c.specs.Collected.{IsCollection}

-- The heap does each command of a list, and goes on standing for the plain heap that does them.
pub record AreDone (old new : PacedState) (given : List (ℕ × Command)) : Type 0 where
  pub state : new ≡ paced_after old given
  pub answers : paced_replies old given ≡ done_replies (length given)
  pub stands : (p : PlainHeap) → StandsFor old.heap.mutators p
      → StandsFor new.heap.mutators (plain_after p given)

-- these stores are all done, or none is, and the status is that of the refusal
abbrev pub AreStoredUnless : Option Refusal → PacedState → PacedState → List (ℕ × Command) → ℕ → Type 0
AreStoredUnless None old new given status = AreDone old new given × (status ≡ 0)
AreStoredUnless (Some why) old new given status = (new ≡ old) × (status ≡ rank_of why)

-- It stores whole numbers to the fields from one on: to all of them, or to none.
abbrev pub AreStored : Option PacedState → Option PacedState → ℕ → RootId → ℕ → List ℤ → ℕ → Type 0
AreStored None new owner object from numbers status = (new ≡ None) × (status ≡ 12)
AreStored (Some old) new owner object from numbers status =
    (after : PacedState) × (new ≡ Some after)
    × AreStoredUnless (numbers_refusal old.heap.mutators owner object from numbers) old after
    (number_stores owner object from numbers) status

-- It stores so, and where the log has too few places for them, it collects first, as a collection
-- does: the log is never full.
abbrev pub AreStoredInsisting
    : Option PacedState → Option PacedState → ℕ → RootId → ℕ → List ℤ → ℕ → Type 0
AreStoredInsisting None new owner object from numbers status = (new ≡ None) × (status ≡ 12)
AreStoredInsisting (Some old) new owner object from numbers status =
    (status ≢ 9)
    × (AreStored (Some old) new owner object from numbers status
    ⊎ ((numbers_refusal old.heap.mutators owner object from numbers ≡ Some LogFull)
    × IsCollection old (collect_step old).0 (collect_step old).1
    × AreStored (Some (collect_step old).0) new owner object from numbers status))

-- The whole numbers that fields hold are read, as the heap's loads tell them, and as the loads of
-- the plain heap for which it stands.
pub record AreRead
    (s : PacedState) (owner : ℕ) (object : RootId) (from : ℕ) (before after : List ℤ) (count : ℕ)
    : Type 0 where
  pub loaded : AreLoaded
      (λ f. number_told (paced_step s owner (Load object object f)).1) from before after count
  pub plain : (p : PlainHeap) → StandsFor s.heap.mutators p → AreLoaded
      (λ f. number_told (plain_step p owner (Load object object f)).1) from before after count

-- So are the bytes of a text.
pub record AreBytesRead
    (s : PacedState) (owner : ℕ) (object : RootId) (from : ℕ) (before after : List ℕ) (count : ℕ)
    : Type 0 where
  pub read : IsTextRead
      (λ f. number_told (paced_step s owner (Load object object f)).1) from before after count
  pub plain : (p : PlainHeap) → StandsFor s.heap.mutators p → IsTextRead
      (λ f. number_told (plain_step p owner (Load object object f)).1) from before after count

-- they are read so, or none is, and the status is that of the refusal
abbrev pub AreReadUnless
    : {X : Type 0} → Option Refusal → Type 0 → List X → List X → ℕ → ℕ → Type 0
AreReadUnless None read before after count status = read × (status ≡ 0)
AreReadUnless (Some why) read before after count status =
    (after ≡ before) × (count ≡ 0) × (status ≡ rank_of why)

-- It reads the whole numbers of the fields from one on, up to the first that holds none, and changes
-- nothing.
abbrev pub AreTold
    : Option PacedState → Option PacedState → ℕ → RootId → ℕ → List ℤ → List ℤ → ℕ → ℕ → Type 0
AreTold None new owner object from before after count status =
    (new ≡ None) × (status ≡ 12) × (after ≡ before) × (count ≡ 0)
AreTold (Some s) new owner object from before after count status =
    (new ≡ Some s)
    × AreReadUnless (first_refusal (graph_of s.heap.mutators)
    (field_loads owner object from (length before)))
    (AreRead s owner object from before after count) before after count status

-- It reads the bytes that the fields from one on hold, up to the first that holds no number, and
-- changes nothing. It is refused as loads of as many fields as so many bytes take.
abbrev pub AreBytesTold
    : Option PacedState → Option PacedState → ℕ → RootId → ℕ → List ℕ → List ℕ → ℕ → ℕ → Type 0
AreBytesTold None new owner object from before after count status =
    (new ≡ None) × (status ≡ 12) × (after ≡ before) × (count ≡ 0)
AreBytesTold (Some s) new owner object from before after count status =
    (new ≡ Some s)
    × AreReadUnless (first_refusal (graph_of s.heap.mutators)
    (field_loads owner object from (fields_of_bytes (length before))))
    (AreBytesRead s owner object from before after count) before after count status
