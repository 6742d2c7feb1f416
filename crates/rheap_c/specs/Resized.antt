-- How a heap of fixed sizes gets other words, and a pace for them.
use Rattle.std.specs.Prelude.{◌≡◌, ◌↔◌, ◌⊎◌, ◌+◌, ◌<◌, ◌≤◌, ℕ, false, length, Option, Some, None, Result, Ok, Err}
use Rattle.rh_space.specs.Space.{used_words}
use Rattle.rh_model.specs.Plain.{PlainHeap}
use Rattle.rh_mutator.specs.Mutator.{StandsFor}
use Rattle.rh_core.specs.declared.errors.ResizeError.{ResizeError}
use Rattle.rh_core.specs.declared.errors.ResizeError.TheVariants.{BadLog, BadSpace, Entries, OutOfMemory, Used}
use Rattle.rh_pace.specs.declared.pace.Pace.{Pace}
use Rattle.rh_pace.specs.InTime.{IsInTime}
use Rattle.rh_pace.specs.KeptUp.{IsKept}
use Rattle.rh_pace.specs.Pace.{CanKeepUp, KeepsUp}
use Rattle.rh_pace.specs.Paced.{PacedState}
use Rattle.rh_pace.specs.Resizing.{LeavesNoLess, resized}
use Rattle.rh_growing.specs.Growing.{GrowingState}
use Rattle.rheap_c.specs.Opened.{IsFillingPace, IsPaceFor}

-- a space may have so many words
abbrev pub MayBeSpace : ℕ → Type 0
MayBeSpace words = (8 ≤ words) × (words ≤ 16777216)

-- What is in use doesn't fit: objects use more words than these, or the log keeps more entries than
-- the pace asks for.
abbrev pub IsInUse : ℕ → Pace → PacedState → Type 0
IsInUse words pace s =
    (words < used_words s.heap.mutators.space.objects)
    ⊎ (pace.log_limit < length s.heap.mutators.log.entries)

-- There are to be more words than the heap has, or more entries in its log than it may keep.
abbrev pub GetsLarger : ℕ → Pace → PacedState → Type 0
GetsLarger words pace s =
    (s.heap.mutators.config.words < words)
    ⊎ (s.heap.mutators.config.log_limit < pace.log_limit)

-- In a cycle a store pays what an allocated word grants.
abbrev pub PaysRatio : PacedState → Type 0
PaysRatio s = s.pace.store_units ≡ s.heap.mutators.config.ratio

-- A heap that has so many words now, with the mark and the log of a pace.
pub record IsResized (words : ℕ) (pace : Pace) (s t : PacedState) : Type 0 where
  pub made : t ≡ resized s words pace
  -- it keeps what a heap keeps between two calls
  pub kept : IsKept t
  -- no program sees it
  pub stands : (p : PlainHeap) → StandsFor s.heap.mutators p ↔ StandsFor t.heap.mutators p
  -- It collects in time with what its pace keeps up with, where no cycle is on and the mark is free
  -- beside the words in use,
  pub free : (live biggest : ℕ)
      → KeepsUp words live biggest s.heap.mutators.config.ratio t.pace
      → s.heap.mutators.cycle ≡ false
      → used_words s.heap.mutators.space.objects + pace.mark ≤ words → IsInTime live biggest t
  -- and where it collected in time with that before, and no fewer words stand beside the mark.
  pub in_time : (live biggest : ℕ) → IsInTime live biggest s
      → KeepsUp words live biggest s.heap.mutators.config.ratio t.pace
      → LeavesNoLess s words pace → IsInTime live biggest t

-- How a resize with a pace ends: the first of these four that holds, where memory is refused only to
-- a heap that gets larger.
abbrev pub ResizesAt : ℕ → Pace → PacedState → PacedState → ℕ → Type 0
ResizesAt words pace s t status =
    ((¬ MayBeSpace words) × (t ≡ s) × (status ≡ 15))
    ⊎ ((MayBeSpace words × IsInUse words pace s × (t ≡ s) × (status ≡ 24))
    ⊎ ((MayBeSpace words × (¬ IsInUse words pace s) × GetsLarger words pace s × (t ≡ s)
    × (status ≡ 16))
    ⊎ (MayBeSpace words × (¬ IsInUse words pace s) × IsResized words pace s t × (status ≡ 0))))

-- How a resize ends that asks for a pace: with status 14 exactly where there can be none, and else as
-- one with a pace that fits.
abbrev pub ResizesBy : (Pace → Type 0) → Type 0 → ℕ → PacedState → PacedState → ℕ → Type 0
ResizesBy Fits can words s t status =
    ((¬ can) × (t ≡ s) × (status ≡ 14))
    ⊎ (can × (pace : Pace) × Fits pace × ResizesAt words pace s t status)

-- A call that resizes a heap of fixed sizes. The pace is one for the heap's own ratio.
abbrev pub Resizes : (ℕ → Pace → Type 0) → (ℕ → Type 0) → ℕ → Option PacedState
    → Option PacedState → ℕ → Type 0
Resizes Fits Can words None new status = (new ≡ None) × (status ≡ 12)
Resizes Fits Can words (Some s) new status =
    (t : PacedState) × (new ≡ Some t)
    × ResizesBy (Fits s.heap.mutators.config.ratio) (Can s.heap.mutators.config.ratio) words s t
    status

-- with the pace for so many live words, and with that for as many as it leaves
abbrev pub ResizesFor : ℕ → ℕ → ℕ → Option PacedState → Option PacedState → ℕ → Type 0
ResizesFor words live biggest =
    Resizes (IsPaceFor words live biggest) (CanKeepUp words live biggest) words

abbrev pub ResizesSized : ℕ → ℕ → Option PacedState → Option PacedState → ℕ → Type 0
ResizesSized words biggest =
    Resizes (IsFillingPace words biggest) (CanKeepUp words (biggest + 1) biggest) words

-- A heap that grows chooses its own words: it is left as it is.
abbrev pub IsNotResized : Option GrowingState → Option GrowingState → ℕ → Type 0
IsNotResized None new status = (new ≡ None) × (status ≡ 12)
IsNotResized (Some s) new status = (new ≡ Some s) × (status ≡ 25)

-- the status after a heap was resized, or wasn't
abbrev pub resize_status_of : Result (Unit {0}) ResizeError → ℕ
resize_status_of (Ok done) = 0
resize_status_of (Err BadSpace) = 15
resize_status_of (Err (Used n)) = 24
resize_status_of (Err BadLog) = 15
resize_status_of (Err (Entries n)) = 24
resize_status_of (Err OutOfMemory) = 16
