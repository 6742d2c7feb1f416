-- What the statuses say of how a program of the small Scheme ended.
use Rattle.std.proofs.Common.{◌≡◌, ◌⊎◌, inl, inr, ℕ, Bool, true, false, List, Option, Some, Result, Ok, Err, IfSome, refl, sym, ◌∙◌, arith}
use Rattle.std.specs.Io.KnownBytes.{Appends, Consumes, Keeps}
use Rattle.rh_lisp.specs.Printed.{output_text}
use Rattle.rh_lisp.specs.Program.{ProgramState}
use Rattle.rh_machine.specs.declared.ending.Ending.TheVariants.{Halted}
use Rattle.rh_lisp.specs.declared.outcome.Outcome.{Outcome}
use Rattle.rh_lisp.specs.declared.outcome.Outcome.TheVariants.{Finished, Stopped}
use Rattle.rh_lisp_run.specs.Cycling.{LispCyclesEnd, RunsWithCycles}
use Rattle.rh_lisp_run.specs.Run.{IsRun, LispEnds, as_new}
use Rattle.rh_lisp_run.specs.Session.{GoesOn, SessionEnds}
use Rattle.rh_lisp_run.specs.declared.fault.LispFault.{LispFault}
use Rattle.rh_lisp_run.specs.declared.fault.LispFault.TheVariants as lisp_faults
use Rattle.rh_choices.specs.declared.limits.Limits.{Limits}
use Rattle.rh_cli.specs.Drive.{Concludes}
use Rattle.rh_commands.specs.Fault.{IsLateStatus}
use Rattle.rh_cli.specs.Lisp.{ConcludesLisp, ConcludesLispCycles, ConcludesLispSession, IsLispSessionStatus, IsLispStatus, lisp_status, outcome_in}
use Rattle.rh_command_line.specs.declared.ask.Subcommand.{Subcommand}
use Rattle.rh_command_line.specs.declared.ask.Subcommand.TheVariants.{LispSession}

lisp_fault_is_1_or_3 : (fault : LispFault) → (lisp_status fault ≡ 1) ⊎ (lisp_status fault ≡ 3)
lisp_fault_is_1_or_3 lisp_faults.Read = inl refl
lisp_fault_is_1_or_3 lisp_faults.Long = inl refl
lisp_fault_is_1_or_3 (lisp_faults.Text fault) = inl refl
lisp_fault_is_1_or_3 lisp_faults.Limits = inl refl
lisp_fault_is_1_or_3 (lisp_faults.Pace why) = inl refl
lisp_fault_is_1_or_3 (lisp_faults.Heap fault) = inl refl
lisp_fault_is_1_or_3 lisp_faults.Write = inl refl
lisp_fault_is_1_or_3 lisp_faults.OutOfMemory = inr refl

pub lisp_is_0_1_or_3 : (outcome : Result Outcome LispFault) (status : ℕ) → IsLispStatus outcome status → (status ≡ 0) ⊎ ((status ≡ 1) ⊎ (status ≡ 3))
lisp_is_0_1_or_3 (Ok Finished) status is = inl is
lisp_is_0_1_or_3 (Ok (Stopped problem source position)) status is = inr (inl is)
lisp_is_0_1_or_3 (Err fault) status is = inr (rw is (lisp_fault_is_1_or_3 fault))

pub lisp_fault_is_not_0 : (fault : LispFault) → 0 ≡ lisp_status fault → ⊥
lisp_fault_is_not_0 fault is = elim (lisp_fault_is_1_or_3 fault) [ inl one ↦ omega (arith, is ∙ one) | inr three ↦ omega (arith, is ∙ three) ]

pub lisp_is_0 : (ran : Result (Outcome × ProgramState) LispFault) (steps : ℕ) (input : List ℕ) (old new : Option (List ℕ)) → LispEnds (λ r. r) steps input ran old new → IsLispStatus (outcome_in (λ r. r.0) ran) 0
    → (program : ProgramState) × IsRun (as_new steps program) program × (program.machine.ended ≡ Some Halted) × Appends old new (output_text program)
lisp_is_0 (Ok (Finished, program)) steps input old new ends is =
    let run = ends.1 in
    (program, run.0, run.1.0.0 refl, run.2)
lisp_is_0 (Ok (Stopped problem source position, program)) steps input old new ends is = absurd (omega (arith, is))
lisp_is_0 (Err fault) steps input old new ends is = absurd (lisp_fault_is_not_0 fault is)

-- where memory was refused, nothing was written
pub lisp_is_3 : (ran : Result (Outcome × ProgramState) LispFault) (steps : ℕ) (input : List ℕ) (old new : Option (List ℕ)) → LispEnds (λ r. r) steps input ran old new → IsLispStatus (outcome_in (λ r. r.0) ran) 3 → Keeps old new
lisp_is_3 (Ok (Finished, program)) steps input old new ends is = absurd (omega (arith, is))
lisp_is_3 (Ok (Stopped problem source position, program)) steps input old new ends is = absurd (omega (arith, is))
lisp_is_3 (Err lisp_faults.Read) steps input old new ends is = absurd (omega (arith, is))
lisp_is_3 (Err lisp_faults.Long) steps input old new ends is = absurd (omega (arith, is))
lisp_is_3 (Err (lisp_faults.Text fault)) steps input old new ends is = absurd (omega (arith, is))
lisp_is_3 (Err lisp_faults.Limits) steps input old new ends is = absurd (omega (arith, is))
lisp_is_3 (Err (lisp_faults.Pace why)) steps input old new ends is = absurd (omega (arith, is))
lisp_is_3 (Err (lisp_faults.Heap fault)) steps input old new ends is = absurd (omega (arith, is))
lisp_is_3 (Err lisp_faults.Write) steps input old new ends is = absurd (omega (arith, is))
lisp_is_3 (Err lisp_faults.OutOfMemory) steps input old new ends is = ends

-- how a run ended and its program, of which more is known
abbrev ran_in : {X : Type 0} → (X → Outcome × ProgramState) → Result X LispFault → Result (Outcome × ProgramState) LispFault
ran_in ran_of (Ok x) = Ok (ran_of x)
ran_in ran_of (Err fault) = Err fault

status_as_outcome : {X : Type 0} (ran_of : X → Outcome × ProgramState) (r : Result X LispFault) (status : ℕ) → IsLispStatus (outcome_in (λ x. (ran_of x).0) r) status → IsLispStatus (outcome_in (λ p. p.0) (ran_in ran_of r)) status
status_as_outcome ran_of (Ok x) status is = is
status_as_outcome ran_of (Err fault) status is = is

ends_as_outcome : {X : Type 0} (ran_of : X → Outcome × ProgramState) (steps : ℕ) (input : List ℕ) (r : Result X LispFault) (old new : Option (List ℕ))
    → LispEnds ran_of steps input r old new → LispEnds (λ (p : Outcome × ProgramState). p) steps input (ran_in ran_of r) old new
ends_as_outcome ran_of steps input (Ok x) old new ends = ends
ends_as_outcome ran_of steps input (Err lisp_faults.Read) old new ends = ends
ends_as_outcome ran_of steps input (Err lisp_faults.Long) old new ends = ends
ends_as_outcome ran_of steps input (Err (lisp_faults.Text fault)) old new ends = ends
ends_as_outcome ran_of steps input (Err lisp_faults.Limits) old new ends = ends
ends_as_outcome ran_of steps input (Err (lisp_faults.Pace why)) old new ends = ends
ends_as_outcome ran_of steps input (Err (lisp_faults.Heap fault)) old new ends = ends
ends_as_outcome ran_of steps input (Err lisp_faults.Write) old new ends = ends
ends_as_outcome ran_of steps input (Err lisp_faults.OutOfMemory) old new ends = ends

-- a run with this status concludes so
pub lisp_concludes : {X : Type 0} (ran_of : X → Outcome × ProgramState) (steps : ℕ) (r : Result X LispFault) (status : ℕ) (old new : Option (List ℕ)) → IsLispStatus (outcome_in (λ x. (ran_of x).0) r) status
    → (input : List ℕ) → LispEnds ran_of steps input r old new → ConcludesLisp steps input status old new
lisp_concludes ran_of steps r status old new is input ends = (ran_in ran_of r, ends_as_outcome ran_of steps input r old new ends, status_as_outcome ran_of r status is)

cycles_end_as_outcome : {X : Type 0} (ran_of : X → Outcome × ProgramState) (limits : Limits) (r : Result X LispFault) (old new before after : Option (List ℕ))
    → LispCyclesEnd ran_of limits r old new before after → LispCyclesEnd (λ (p : Outcome × ProgramState). p) limits (ran_in ran_of r) old new before after
cycles_end_as_outcome ran_of limits (Ok x) old new before after ends = ends
cycles_end_as_outcome ran_of limits (Err lisp_faults.Read) old new before after ends = ends
cycles_end_as_outcome ran_of limits (Err lisp_faults.Long) old new before after ends = ends
cycles_end_as_outcome ran_of limits (Err (lisp_faults.Text fault)) old new before after ends = ends
cycles_end_as_outcome ran_of limits (Err lisp_faults.Limits) old new before after ends = ends
cycles_end_as_outcome ran_of limits (Err (lisp_faults.Pace why)) old new before after ends = ends
cycles_end_as_outcome ran_of limits (Err (lisp_faults.Heap fault)) old new before after ends = ends
cycles_end_as_outcome ran_of limits (Err lisp_faults.Write) old new before after ends = ends
cycles_end_as_outcome ran_of limits (Err lisp_faults.OutOfMemory) old new before after ends = ends

-- and so does one whose cycles are written
pub lisp_cycles_conclude : {X : Type 0} (ran_of : X → Outcome × ProgramState) (limits : Limits) (r : Result X LispFault) (status : ℕ) (old new before after : Option (List ℕ)) → IsLispStatus (outcome_in (λ x. (ran_of x).0) r) status
    → LispCyclesEnd ran_of limits r old new before after
    → (input : List ℕ) → LispEnds ran_of limits.steps input r old new → ConcludesLispCycles limits input status old new before after
lisp_cycles_conclude ran_of limits r status old new before after is cycles input ends =
    (ran_in ran_of r, ends_as_outcome ran_of limits.steps input r old new ends, cycles_end_as_outcome ran_of limits r old new before after cycles, status_as_outcome ran_of r status is)

-- where its status is 0, the program finished, and all lines of its cycles are written
lisp_cycles_of_0 : (limits : Limits) (ran : Result (Outcome × ProgramState) LispFault) (old new before after : Option (List ℕ)) → LispCyclesEnd (λ r. r) limits ran old new before after → IsLispStatus (outcome_in (λ r. r.0) ran) 0
    → (program : ProgramState) × RunsWithCycles (λ r. r) limits (Ok (Finished, program)) old new before after
lisp_cycles_of_0 limits (Ok (Finished, program)) old new before after ends is = (program, ends)
lisp_cycles_of_0 limits (Ok (Stopped problem source position, program)) old new before after ends is = absurd (omega (arith, is))
lisp_cycles_of_0 limits (Err fault) old new before after ends is = absurd (lisp_fault_is_not_0 fault is)

pub lisp_cycles_is_0 : (limits : Limits) (input : List ℕ) (old new before after : Option (List ℕ)) → ConcludesLispCycles limits input 0 old new before after
    → (program : ProgramState) × RunsWithCycles (λ r. r) limits (Ok (Finished, program)) old new before after
lisp_cycles_is_0 limits input old new before after c = lisp_cycles_of_0 limits c.0 old new before after c.2 c.3

-- its status is one of those that come once the command line is understood
pub lisp_late : (outcome : Result Outcome LispFault) (status : ℕ) → IsLispStatus outcome status → IsLateStatus status
lisp_late outcome status is =
    elim (lisp_is_0_1_or_3 outcome status is) [
      | inl zero ↦ rw zero (omega (arith), λ two. omega (arith, two))
      | inr (inl one) ↦ rw one (omega (arith), λ two. omega (arith, two))
      | inr (inr three) ↦ rw three (omega (arith), λ two. omega (arith, two))
    ]

pub lisp_session_is_0_1_or_3 : (outcome : Result Bool LispFault) (status : ℕ) → IsLispSessionStatus outcome status → (status ≡ 0) ⊎ ((status ≡ 1) ⊎ (status ≡ 3))
lisp_session_is_0_1_or_3 (Ok true) status is = inl is
lisp_session_is_0_1_or_3 (Ok false) status is = inr (inl is)
lisp_session_is_0_1_or_3 (Err fault) status is = inr (rw is (lisp_fault_is_1_or_3 fault))

-- a session with status 0 went on a heap to its end
lisp_session_goes : (limits : Limits) (outcome : Result Bool LispFault) (old new : Option (List ℕ)) → SessionEnds limits.heap limits.steps outcome old new → IsLispSessionStatus outcome 0
    → GoesOn limits.heap limits.steps (Ok true) old new
lisp_session_goes limits (Ok true) old new (inl none) is = absurd none
lisp_session_goes limits (Ok true) old new (inr goes) is = goes
lisp_session_goes limits (Ok false) old new ends is = absurd (omega (arith, is))
lisp_session_goes limits (Err fault) old new ends is = absurd (lisp_fault_is_not_0 fault is)

pub lisp_session_is_0 : (limits : Limits) (old new : Option (List ℕ)) → ConcludesLispSession limits 0 old new → GoesOn limits.heap limits.steps (Ok true) old new
lisp_session_is_0 limits old new c = lisp_session_goes limits c.0 old new c.1 c.2

-- what holds where a session came to its end holds where its status is 0
pub lisp_session_ended : (X : Type 0) (outcome : Result Bool LispFault) (status : ℕ) → IsLispSessionStatus outcome status → (outcome ≡ Ok true → X) → status ≡ 0 → X
lisp_session_ended X (Ok true) status is ended zero = ended refl
lisp_session_ended X (Ok false) status is ended zero = absurd (omega (arith, is, zero))
lisp_session_ended X (Err fault) status is ended zero = absurd (lisp_fault_is_not_0 fault (sym zero ∙ is))

-- what is due of a session is what is due of the subcommand that asks for it
pub lisp_session_told : (subcommand : Subcommand) (limits : Limits) (known : Option (List ℕ)) (status : ℕ) (old new : Option (List ℕ)) → subcommand ≡ LispSession limits → IfSome known (λ input. ConcludesLispSession limits status old new)
    → IfSome known (λ input. Concludes subcommand input status old new)
lisp_session_told subcommand limits known status old new is told = rw is told

pub lisp_session_read : (subcommand : Subcommand) (limits : Limits) (known left : Option (List ℕ)) (status : ℕ) (old new : Option (List ℕ)) → subcommand ≡ LispSession limits
    → (input : List ℕ) × Consumes known left input × ConcludesLispSession limits status old new → (input : List ℕ) × Consumes known left input × Concludes subcommand input status old new
lisp_session_read subcommand limits known left status old new is read = rw is read
