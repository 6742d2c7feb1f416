-- What statuses tell apart.
use Rattle.std.proofs.Common.{◌≡◌, ◌≢◌, ◌≤◌, ◌⊎◌, inl, inr, ℕ, ap, arith}
use Rattle.std.specs.Prelude.{IfErr, Result, Ok, Err}
use Rattle.rh_command_line.specs.lemmas.Statuses.{line_at_most_2}
use Rattle.rh_commands.specs.declared.ending.Ending.{Ending}
use Rattle.rh_commands.specs.declared.ending.Ending.TheVariants.{Done, WrongHistory}
use Rattle.rh_commands.specs.declared.fault.LineFault.{LineFault}
use Rattle.rh_commands.specs.declared.fault.LineFault.TheVariants as faults
use Rattle.rh_commands.specs.Fault.{status_after, status_of, ending_status, IsLateStatus, IsUsualFault}

-- a fault that any subcommand may end with has another status than 0 and 4
pub usual_is_told : (status own : ℕ) → status ≡ own → (own ≡ 1) ⊎ (own ≡ 3) → (status ≡ 0) ⊎ (status ≡ 4) → ⊥
usual_is_told status own is (inl one) (inl quiet) = omega (arith, is, one, quiet)
usual_is_told status own is (inl one) (inr quiet) = omega (arith, is, one, quiet)
usual_is_told status own is (inr three) (inl quiet) = omega (arith, is, three, quiet)
usual_is_told status own is (inr three) (inr quiet) = omega (arith, is, three, quiet)

-- a fault that comes once the command line is understood has another status than 0, and than 4
-- where this holds
pub late_is_told : (X : Type 0) (status own : ℕ) → status ≡ own → ((own ≡ 1) ⊎ (own ≡ 3)) ⊎ (own ≡ 4) → (X → own ≢ 4) → (status ≡ 0) ⊎ ((status ≡ 4) × X) → ⊥
late_is_told X status own is (inl usual) check (inl quiet) = usual_is_told status own is usual (inl quiet)
late_is_told X status own is (inl usual) check (inr quiet) = usual_is_told status own is usual (inr quiet.0)
late_is_told X status own is (inr four) check (inl quiet) = omega (arith, is, four, quiet)
late_is_told X status own is (inr four) check (inr quiet) = check quiet.1 four

-- an ending's status isn't that of the command line
pub late_of_ending : (ending : Ending) (status : ℕ) → status ≡ ending_status ending → IsLateStatus status
late_of_ending Done status is = (omega (arith, is), λ two. omega (arith, is, two))
late_of_ending WrongHistory status is = (omega (arith, is), λ two. omega (arith, is, two))

-- nor is that of a fault that comes once the command line is understood
pub late_of_fault : (status own : ℕ) → status ≡ own → ((own ≡ 1) ⊎ (own ≡ 3)) ⊎ (own ≡ 4) → IsLateStatus status
late_of_fault status own is (inl (inl one)) = (omega (arith, is, one), λ two. omega (arith, is, one, two))
late_of_fault status own is (inl (inr three)) = (omega (arith, is, three), λ two. omega (arith, is, three, two))
late_of_fault status own is (inr four) = (omega (arith, is, four), λ two. omega (arith, is, four, two))

-- nor is the status after what ended with such a fault, if with any
pub late_after : (ended : Result Ending LineFault) (status : ℕ) → status ≡ status_after ended → IfErr ended IsUsualFault → IsLateStatus status
late_after (Ok ending) status is usual = late_of_ending ending status is
late_after (Err fault) status is usual = late_of_fault status (status_of fault) is (inl usual)

-- what comes before anything is read of what is viewed
pub usual_open : (fault : LineFault) → fault ≡ faults.Open → IsUsualFault fault
usual_open fault is = inl (ap status_of is)

pub usual_write : (fault : LineFault) → fault ≡ faults.Write → IsUsualFault fault
usual_write fault is = inl (ap status_of is)

pub usual_same : (fault : LineFault) → fault ≡ faults.SameFile → IsUsualFault fault
usual_same fault is = inl (ap status_of is)

pub usual_memory : (fault : LineFault) → fault ≡ faults.OutOfMemory → IsUsualFault fault
usual_memory fault is = inr (ap status_of is)

-- no fault has a status above 4
pub fault_at_most_4 : (fault : LineFault) → status_of fault ≤ 4
fault_at_most_4 (faults.CommandLine line) = omega (arith, line_at_most_2 line)
fault_at_most_4 faults.NoText = omega arith
fault_at_most_4 faults.SameFile = omega arith
fault_at_most_4 (faults.Program kind) = omega arith
fault_at_most_4 faults.Stopped = omega arith
fault_at_most_4 faults.NoLine = omega arith
fault_at_most_4 (faults.Trace fault) = omega arith
fault_at_most_4 (faults.History fault) = omega arith
fault_at_most_4 (faults.Dump fault) = omega arith
fault_at_most_4 (faults.Heap fault) = omega arith
fault_at_most_4 (faults.Shared fault) = omega arith
fault_at_most_4 faults.HistoryDiffers = omega arith
fault_at_most_4 faults.Limits = omega arith
fault_at_most_4 (faults.Pace why) = omega arith
fault_at_most_4 faults.Open = omega arith
fault_at_most_4 faults.Read = omega arith
fault_at_most_4 faults.Write = omega arith
fault_at_most_4 faults.TooLong = omega arith
fault_at_most_4 faults.OutOfMemory = omega arith
