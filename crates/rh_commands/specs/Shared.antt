-- How a run on a shared heap ends the program.
use Rattle.std.specs.Prelude.{◌≡◌, ℕ, ◌⊎◌, Option, List, Result, Ok, Err}
use Rattle.rh_shared_trace.specs.declared.fault.SharedRunFault.{SharedRunFault}
use Rattle.rh_shared_trace.specs.declared.fault.SharedRunFault.TheVariants as shared_faults
use Rattle.rh_shared_trace.specs.declared.options.RunOptions.{RunOptions}
use Rattle.rh_shared_trace.specs.Run.{Ends}
use Rattle.rh_commands.specs.declared.fault.LineFault.{LineFault}
use Rattle.rh_commands.specs.declared.fault.LineFault.TheVariants as faults

-- the status after a fault of a shared run: 3 for want of memory, 4 for a history that differs,
-- else 1
abbrev pub shared_status : SharedRunFault → ℕ
shared_status shared_faults.Read = 1
shared_status shared_faults.Long = 1
shared_status (shared_faults.Trace fault) = 1
shared_status (shared_faults.New fault) = 1
shared_status (shared_faults.Shared fault) = 1
shared_status shared_faults.HistoryDiffers = 4
shared_status shared_faults.Write = 1
shared_status shared_faults.OutOfMemory = 3

-- the fault of the program that a shared run's is told as
abbrev pub shared_told_as : SharedRunFault → LineFault
shared_told_as shared_faults.Read = faults.Read
shared_told_as shared_faults.Long = faults.TooLong
shared_told_as (shared_faults.Trace fault) = faults.Trace fault
shared_told_as (shared_faults.New fault) = faults.Heap fault
shared_told_as (shared_faults.Shared fault) = faults.Shared fault
shared_told_as shared_faults.HistoryDiffers = faults.HistoryDiffers
shared_told_as shared_faults.Write = faults.Write
shared_told_as shared_faults.OutOfMemory = faults.OutOfMemory

-- the status after a shared run: 0 where it is done, or 1 where the last flush failed
abbrev pub IsSharedStatus : Result (Unit {0}) SharedRunFault → ℕ → Type 0
IsSharedStatus (Ok done) status = (status ≡ 0) ⊎ (status ≡ 1)
IsSharedStatus (Err fault) status = status ≡ shared_status fault

-- the run with these options ended in a way that fits its input and what was written, and the
-- status is that ending's
abbrev pub ConcludesShared : RunOptions → List ℕ → ℕ → Option (List ℕ) → Option (List ℕ) → Type 0
ConcludesShared options input status old new =
    (outcome : Result (Unit {0}) SharedRunFault) × Ends options input outcome old new
    × IsSharedStatus outcome status
