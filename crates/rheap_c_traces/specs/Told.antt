-- What a call leaves in the caller's buffer, counts, and answers.
use Rattle.std.specs.Prelude.{◌≡◌, ℕ, ◌<◌, ◌≤◌, ◌⊎◌, List, ◌++◌, length, drop, Option, None, Some, Result, Ok, Err, nat_eq, if◌then◌else◌}
use Rattle.rh_trace.specs.declared.summary.Summary.{Summary}
use Rattle.rh_trace.specs.declared.way_fault.WayFault.{WayFault}
use Rattle.rh_trace.specs.declared.way_fault.WayFault.TheVariants as faults
use Rattle.rh_paced_trace.specs.declared.fault.Unpaced.{Unpaced}

-- the text stands at the front of the buffer, whose other bytes are as before, and its bytes are
-- counted
abbrev pub Delivers : List ℕ → List ℕ → List ℕ → ℕ → Type 0
Delivers text old new count =
    (length text ≤ length old) × (new ≡ text ++ drop (length text) old) × (count ≡ length text)

-- the buffer has no room for the text and is as before; the bytes that are due are counted
abbrev pub FindsNoRoom : List ℕ → List ℕ → List ℕ → ℕ → Type 0
FindsNoRoom text old new count = (length old < length text) × (new ≡ old) × (count ≡ length text)

-- the buffer is as before, and no bytes are counted
abbrev pub Withholds : List ℕ → List ℕ → ℕ → Type 0
Withholds old new count = (new ≡ old) × (count ≡ 0)

-- status 0 with the text delivered, or 5 where there is no room for it
abbrev pub AnswersText : List ℕ → ℕ → List ℕ → List ℕ → ℕ → Type 0
AnswersText text status old new count =
    ((status ≡ 0) × Delivers text old new count) ⊎ ((status ≡ 5) × FindsNoRoom text old new count)

-- the status after a fault of a run: 1 for one that the trace has, or its way, else 3
abbrev pub run_status : WayFault Unpaced → ℕ
run_status faults.Read = 3
run_status faults.Long = 1
run_status (faults.Trace fault) = 1
run_status (faults.New fault) = 1
run_status (faults.Way why) = 1
run_status faults.Write = 3
run_status faults.OutOfMemory = 3

-- what a call tells after a run that ended so and wrote this text
abbrev pub TellsRun : Result Summary (WayFault Unpaced) → List ℕ → ℕ → List ℕ → List ℕ → ℕ → Type 0
TellsRun (Ok summary) text status old new count = AnswersText text status old new count
TellsRun (Err fault) text status old new count =
    (status ≡ run_status fault) × Withholds old new count

-- a mark of 0 asks for none
abbrev pub mark_of : ℕ → Option ℕ
mark_of mark = if nat_eq mark 0 then None else Some mark
