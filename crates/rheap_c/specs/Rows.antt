-- What a call leaves and tells that stores or reads whole numbers in fields in a row, one after the
-- other from one on, or the bytes that they hold: by the heap, and by a heap that never moves its
-- objects.
use Rattle.std.specs.Prelude.{ℕ, suc, ◌+◌, ◌/◌, ◌%◌, ℤ, List, [], ◌∷◌, Option, Some, None}
use Rattle.rh_layout.specs.declared.command.Command.{Command}
use Rattle.rh_layout.specs.declared.command.RootId.{RootId}
use Rattle.rh_layout.specs.declared.refusal.Refusal.{Refusal}
use Rattle.rh_layout.specs.declared.refusal.Refusal.TheVariants.{LogFull}
use Rattle.rh_layout.specs.Refusal.{rank_of}
use Rattle.rh_model.specs.Plain.{PlainHeap}
use Rattle.rh_mutator.specs.StoringAll.{number_stores, numbers_refusal}
use Rattle.rh_mutator.specs.Texts.{byte_told}
use Rattle.rh_pace.specs.Collecting.{collect_step}
use Rattle.rh_pace.specs.InTime.{paced_after}
use Rattle.rh_pace.specs.Paced.{PacedState}
use Rattle.rh_pace.specs.PlainBounds.{plain_after}
use Rattle.rh_pace.specs.PlainReplies.{first_refused, plain_replies}

-- the status of a row: 0, or the number of what refuses it
abbrev pub row_status : Option Refusal → ℕ
row_status None = 0
row_status (Some why) = rank_of why

-- why a heap refuses a row of numbers, if it does
abbrev pub row_refusal : PacedState → ℕ → RootId → ℕ → List ℤ → Option Refusal
row_refusal s owner object from numbers =
    numbers_refusal s.heap.mutators owner object from numbers

-- what a heap is after a list of commands, or as it was, where there is a reason why not
abbrev pub after_unless : Option Refusal → PacedState → List (ℕ × Command) → PacedState
after_unless None s row = paced_after s row
after_unless (Some why) s row = s

-- what a heap is after a row of numbers, all of which are stored, or none
abbrev pub after_row : PacedState → ℕ → RootId → ℕ → List ℤ → PacedState
after_row s owner object from numbers =
    after_unless (row_refusal s owner object from numbers) s
    (number_stores owner object from numbers)

-- what a heap is once it has collected, where it was refused for a full log
abbrev pub emptied_for : Option Refusal → PacedState → PacedState
emptied_for (Some LogFull) s = (collect_step s).0
emptied_for other s = s

-- what a heap is before the row that is insisted on: it collects where its log is too full for it
abbrev pub ready_for : PacedState → ℕ → RootId → ℕ → List ℤ → PacedState
ready_for s owner object from numbers = emptied_for (row_refusal s owner object from numbers) s

-- a list once its first item is read, where there is one to read, and how many were read
abbrev pub read_on : {X : Type 0} → Option X → List X → List X × ℕ → List X × ℕ
read_on None before further = (before, 0)
read_on (Some x) before further = (x ∷ further.0, suc further.1)

-- a list once items are read into it, from one on, and how many: up to the first that isn't there
abbrev pub read_into : {X : Type 0} → (ℕ → Option X) → ℕ → List X → List X × ℕ
read_into item_at from [] = ([], 0)
read_into item_at from (x ∷ rest) =
    read_on (item_at from) (x ∷ rest) (read_into item_at (from + 1) rest)

-- the bytes that the fields from one on hold, counted from 0, seven of each field's number
abbrev pub byte_in : (ℕ → Option ℤ) → ℕ → ℕ → Option ℕ
byte_in number_at from k = byte_told (number_at (from + k / 7)) (k % 7)

-- the first refusal that a plain heap meets in a list of commands
abbrev pub plain_refusal : PlainHeap → List (ℕ × Command) → Option Refusal
plain_refusal p row = first_refused (plain_replies p row)

-- what a plain heap is after a list of commands, or as it was, where there is a reason why not
abbrev pub plain_unless_refused : Option Refusal → PlainHeap → List (ℕ × Command) → PlainHeap
plain_unless_refused None p row = plain_after p row
plain_unless_refused (Some why) p row = p
