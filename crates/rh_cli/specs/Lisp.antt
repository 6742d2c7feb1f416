-- How running a program of the small Scheme ends the program.
use Rattle.std.specs.Prelude.{◌≡◌, ℕ, Bool, true, false, Option, List, Result, Ok, Err}
use Rattle.rh_lisp.specs.declared.outcome.Outcome.{Outcome}
use Rattle.rh_lisp.specs.declared.outcome.Outcome.TheVariants.{Finished, Stopped}
use Rattle.rh_lisp.specs.Program.{ProgramState}
use Rattle.rh_lisp_run.specs.Cycling.{LispCyclesEnd}
use Rattle.rh_lisp_run.specs.Run.{LispEnds}
use Rattle.rh_lisp_run.specs.Session.{SessionEnds}
use Rattle.rh_lisp_run.specs.declared.fault.LispFault.{LispFault}
use Rattle.rh_lisp_run.specs.declared.fault.LispFault.TheVariants as lisp_faults
use Rattle.rh_choices.specs.declared.limits.Limits.{Limits}
use Rattle.rh_commands.specs.declared.fault.LineFault.{LineFault}
use Rattle.rh_commands.specs.declared.fault.LineFault.TheVariants as faults

-- the status after a fault of such a run: 3 for want of memory, else 1
abbrev pub lisp_status : LispFault → ℕ
lisp_status lisp_faults.Read = 1
lisp_status lisp_faults.Long = 1
lisp_status (lisp_faults.Text fault) = 1
lisp_status lisp_faults.Limits = 1
lisp_status (lisp_faults.Pace why) = 1
lisp_status (lisp_faults.Heap fault) = 1
lisp_status lisp_faults.Write = 1
lisp_status lisp_faults.OutOfMemory = 3

-- the fault of the program that a run's is told as
abbrev pub lisp_told_as : LispFault → LineFault
lisp_told_as lisp_faults.Read = faults.Read
lisp_told_as lisp_faults.Long = faults.TooLong
lisp_told_as (lisp_faults.Text fault) = faults.Program fault.kind
lisp_told_as lisp_faults.Limits = faults.Limits
lisp_told_as (lisp_faults.Pace why) = faults.Pace why
lisp_told_as (lisp_faults.Heap fault) = faults.Heap fault
lisp_told_as lisp_faults.Write = faults.Write
lisp_told_as lisp_faults.OutOfMemory = faults.OutOfMemory

-- the status after such a run: 0 where the program finished, 1 where it stopped
abbrev pub IsLispStatus : Result Outcome LispFault → ℕ → Type 0
IsLispStatus (Ok Finished) status = status ≡ 0
IsLispStatus (Ok (Stopped problem source position)) status = status ≡ 1
IsLispStatus (Err fault) status = status ≡ lisp_status fault

-- how a run ended, of which more is known
abbrev pub outcome_in : {X : Type 0} → (X → Outcome) → Result X LispFault → Result Outcome LispFault
outcome_in outcome_of (Ok x) = Ok (outcome_of x)
outcome_in outcome_of (Err fault) = Err fault

-- a program with so many steps was run in a way that fits its text and what was written, and the
-- status is that ending's; it is handed back within the run, and a status alone can't name it
abbrev pub ConcludesLisp : ℕ → List ℕ → ℕ → Option (List ℕ) → Option (List ℕ) → Type 0
ConcludesLisp steps input status old new =
    (ran : Result (Outcome × ProgramState) LispFault) × LispEnds (λ r. r) steps input ran old new
    × IsLispStatus (outcome_in (λ r. r.0) ran) status

-- such a run whose cycles are written, too, in a way that fits what was written of them
abbrev pub ConcludesLispCycles : Limits → List ℕ → ℕ → Option (List ℕ) → Option (List ℕ)
    → Option (List ℕ) → Option (List ℕ) → Type 0
ConcludesLispCycles limits input status old new before after =
    (ran : Result (Outcome × ProgramState) LispFault)
    × LispEnds (λ r. r) limits.steps input ran old new
    × LispCyclesEnd (λ r. r) limits ran old new before after
    × IsLispStatus (outcome_in (λ r. r.0) ran) status

-- the status after a session: 0 where its input came to the end, and 1 where the language had no room
abbrev pub IsLispSessionStatus : Result Bool LispFault → ℕ → Type 0
IsLispSessionStatus (Ok true) status = status ≡ 0
IsLispSessionStatus (Ok false) status = status ≡ 1
IsLispSessionStatus (Err fault) status = status ≡ lisp_status fault

-- a session within these limits went in a way that fits what was written, and the status is that
-- ending's
abbrev pub ConcludesLispSession : Limits → ℕ → Option (List ℕ) → Option (List ℕ) → Type 0
ConcludesLispSession limits status old new =
    (outcome : Result Bool LispFault)
    × SessionEnds limits.heap limits.steps outcome old new × IsLispSessionStatus outcome status
