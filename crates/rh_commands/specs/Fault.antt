-- The status that a fault ends the program with.
use Rattle.std.specs.Prelude.{◌≡◌, ◌≢◌, ◌≤◌, ◌⊎◌, ℕ, Result, Ok, Err}
use Rattle.rh_command_line.specs.Fault.{line_status}
use Rattle.rh_commands.specs.declared.ending.Ending.{Ending}
use Rattle.rh_commands.specs.declared.ending.Ending.TheVariants.{Done, WrongHistory}
use Rattle.rh_commands.specs.declared.fault.LineFault.{LineFault}
use Rattle.rh_commands.specs.declared.fault.LineFault.TheVariants as faults

-- 0 done, 1 a fault in the file or an error of a program, sizes that make no heap, no pace, no such
-- line, a failed open, read or write, or a text for a file that has another, 2 the command line, 3
-- memory or a thread was refused, 4 a history that differs
abbrev pub status_of : LineFault → ℕ
status_of (faults.CommandLine fault) = line_status fault
status_of faults.NoText = 2
status_of (faults.Trace fault) = 1
status_of (faults.History fault) = 1
status_of (faults.Dump fault) = 1
status_of (faults.Heap fault) = 1
status_of (faults.Shared fault) = 1
status_of faults.Limits = 1
status_of faults.NoLine = 1
status_of (faults.Program kind) = 1
status_of faults.Stopped = 1
status_of (faults.Pace why) = 1
status_of faults.Open = 1
status_of faults.SameFile = 1
status_of faults.Read = 1
status_of faults.Write = 1
status_of faults.TooLong = 1
status_of faults.OutOfMemory = 3
status_of faults.HistoryDiffers = 4

-- a fault that any subcommand may end with, once the command line is understood
abbrev pub IsUsualFault : LineFault → Type 0
IsUsualFault fault = (status_of fault ≡ 1) ⊎ (status_of fault ≡ 3)

-- such a fault, or that a history differs, which only a run in threads ends with
abbrev pub IsLateFault : LineFault → Type 0
IsLateFault fault = IsUsualFault fault ⊎ (status_of fault ≡ 4)

-- a status that comes once the command line is understood: one of 0, 1, 3 and 4
abbrev pub IsLateStatus : ℕ → Type 0
IsLateStatus status = (status ≤ 4) × (status ≢ 2)

-- 0 where all is well, 4 for a wrong history
abbrev pub ending_status : Ending → ℕ
ending_status Done = 0
ending_status WrongHistory = 4

-- the status where all was done or there was a fault
abbrev pub status_after : Result Ending LineFault → ℕ
status_after (Ok ending) = ending_status ending
status_after (Err fault) = status_of fault
