-- What a call of C's tells of a heap as a text, in the caller's buffer.
use Rattle.std.specs.Prelude.{◌≡◌, ◌↔◌, ◌⊎◌, ◌<◌, ◌≤◌, ℕ, true, List, ◌++◌, length, drop, Option, Some, None, Result, Ok, Err}
use Rattle.rh_core.specs.declared.errors.ReleaseError.{ReleaseError}
use Rattle.rh_core.specs.declared.errors.ReleaseError.TheVariants.{CycleOn, OutOfMemory}
use Rattle.rh_dump.specs.texts.Line.{dump_text}
use Rattle.rh_heap_dump.specs.HeapDump.{dump_of}
use Rattle.rh_draw.specs.Picture.{IsWhole}
use Rattle.rh_pace.specs.Paced.{PacedState}

-- The text is told whole, at the start of the buffer, whose other bytes stay; or not at all, with
-- status 22, where it has more bytes than the buffer. Either way its bytes are counted.
abbrev pub IsToldWhole : List ℕ → List ℕ → List ℕ → ℕ → ℕ → Type 0
IsToldWhole text before after count status =
    (count ≡ length text)
    × (((length text ≤ length before) × (status ≡ 0)
    × (after ≡ text ++ drop (length text) before))
    ⊎ ((length before < length text) × (status ≡ 22) × (after ≡ before)))

-- nothing is told, with this status
abbrev pub IsUntold : List ℕ → List ℕ → ℕ → ℕ → ℕ → Type 0
IsUntold before after count status why = (status ≡ why) × (after ≡ before) × (count ≡ 0)

-- the text is told so, or nothing is told, with status 16
abbrev pub IsToldOrRefused : List ℕ → List ℕ → List ℕ → ℕ → ℕ → Type 0
IsToldOrRefused text before after count status =
    IsToldWhole text before after count status ⊎ IsUntold before after count status 16

-- a picture is told so, of which it is known that it is whole, or nothing is told, with status 16
abbrev pub IsPictureTold : List ℕ → List ℕ → ℕ → ℕ → Type 0
IsPictureTold before after count status =
    ((text : List ℕ) × IsWhole text × IsToldWhole text before after count status)
    ⊎ IsUntold before after count status 16

-- It tells the dump of the heap, and changes nothing of it. Where no heap is open, its status is 12.
abbrev pub IsDump : Option PacedState → Option PacedState → List ℕ → List ℕ → ℕ → ℕ → Type 0
IsDump None new before after count status = (new ≡ None) × IsUntold before after count status 12
IsDump (Some s) new before after count status =
    (new ≡ Some s) × IsToldOrRefused (dump_text (dump_of s.heap)) before after count status

-- It tells a picture of the heap, and changes nothing of it.
abbrev pub IsPicture : Option PacedState → Option PacedState → List ℕ → List ℕ → ℕ → ℕ → Type 0
IsPicture None new before after count status = (new ≡ None) × IsUntold before after count status 12
IsPicture (Some s) new before after count status =
    (new ≡ Some s) × IsPictureTold before after count status

-- the status after memory was given back, or wasn't
abbrev pub release_status_of : Result (Unit {0}) ReleaseError → ℕ
release_status_of (Ok done) = 0
release_status_of (Err CycleOn) = 23
release_status_of (Err OutOfMemory) = 16

-- It gives memory back, and changes nothing that can be read. Its status is 23 exactly where a cycle
-- is on, else 0 or 16.
abbrev pub IsReleased : Option PacedState → Option PacedState → ℕ → Type 0
IsReleased None new status = (new ≡ None) × (status ≡ 12)
IsReleased (Some s) new status =
    (new ≡ Some s) × ((status ≡ 23) ↔ (s.heap.mutators.cycle ≡ true))
    × ((status ≡ 0) ⊎ ((status ≡ 16) ⊎ (status ≡ 23)))
