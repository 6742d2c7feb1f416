-- What the statuses say of a run in threads.
use Rattle.std.proofs.Common.{◌≡◌, ◌⊎◌, inl, inr, ℕ, List, Option, Result, Ok, Err, refl, ◌∙◌, arith}
use Rattle.std.specs.Io.KnownBytes.{Appends, Keeps}
use Rattle.rh_syntax.specs.Reading.{trace_of}
use Rattle.rh_syntax.specs.Spelling.{Script}
use Rattle.rh_syntax.specs.declared.fault.TraceFault.{TraceFault}
use Rattle.rh_replay.specs.History.{HistoryState}
use Rattle.rh_replay.specs.Spelling.{spelling}
use Rattle.rh_shared_trace.specs.declared.fault.SharedRunFault.{SharedRunFault}
use Rattle.rh_shared_trace.specs.declared.fault.SharedRunFault.TheVariants as faults
use Rattle.rh_shared_trace.specs.declared.options.RunOptions.{RunOptions}
use Rattle.rh_shared_trace.specs.Run.{Ends, IsHistoryOf, IsSharedRun}
use Rattle.rh_commands.specs.Shared.{ConcludesShared, IsSharedStatus, shared_status}

-- the status after a fault of a shared run is one of 1, 3 and 4
shared_fault_is_1_3_or_4 : (fault : SharedRunFault) → (shared_status fault ≡ 1) ⊎ ((shared_status fault ≡ 3) ⊎ (shared_status fault ≡ 4))
shared_fault_is_1_3_or_4 faults.Read = inl refl
shared_fault_is_1_3_or_4 faults.Long = inl refl
shared_fault_is_1_3_or_4 (faults.Trace fault) = inl refl
shared_fault_is_1_3_or_4 (faults.New fault) = inl refl
shared_fault_is_1_3_or_4 (faults.Shared fault) = inl refl
shared_fault_is_1_3_or_4 faults.HistoryDiffers = inr (inr refl)
shared_fault_is_1_3_or_4 faults.Write = inl refl
shared_fault_is_1_3_or_4 faults.OutOfMemory = inr (inl refl)

-- the status after a shared run is one of 0, 1, 3 and 4
pub shared_is_0_1_3_or_4 : (outcome : Result (Unit {0}) SharedRunFault) (status : ℕ) → IsSharedStatus outcome status → ((status ≡ 0) ⊎ (status ≡ 4)) ⊎ ((status ≡ 1) ⊎ (status ≡ 3))
shared_is_0_1_3_or_4 (Ok done) status (inl is) = inl (inl is)
shared_is_0_1_3_or_4 (Ok done) status (inr is) = inr (inl is)
shared_is_0_1_3_or_4 (Err fault) status is =
    elim (shared_fault_is_1_3_or_4 fault) [ inl one ↦ inr (inl (is ∙ one)) | inr (inl three) ↦ inr (inr (is ∙ three)) | inr (inr four) ↦ inl (inr (is ∙ four)) ]

-- a shared run with 3 or 4 has written nothing
shared_keeps : (options : RunOptions) (input : List ℕ) (fault : SharedRunFault) (n : ℕ) (old new : Option (List ℕ)) → Ends options input (Err fault) old new → n ≡ shared_status fault → (n ≡ 3) ⊎ (n ≡ 4) → Keeps old new
shared_keeps options input faults.Read n old new ends is at = ends
shared_keeps options input faults.Long n old new ends is at = ends.1
shared_keeps options input (faults.Trace fault) n old new ends is at = ends.2
shared_keeps options input (faults.New fault) n old new ends is at = ends.3
shared_keeps options input (faults.Shared fault) n old new ends is at = ends.4
shared_keeps options input faults.HistoryDiffers n old new ends is at = ends.2
shared_keeps options input faults.Write n old new ends is (inl three) = absurd (omega (arith, is, three))
shared_keeps options input faults.Write n old new ends is (inr four) = absurd (omega (arith, is, four))
shared_keeps options input faults.OutOfMemory n old new ends is at = ends

pub shared_is_4 : (options : RunOptions) (input : List ℕ) (outcome : Result (Unit {0}) SharedRunFault) (old new : Option (List ℕ)) → Ends options input outcome old new → IsSharedStatus outcome 4 → Keeps old new
shared_is_4 options input (Ok done) old new ends (inl is) = absurd (omega (arith, is))
shared_is_4 options input (Ok done) old new ends (inr is) = absurd (omega (arith, is))
shared_is_4 options input (Err fault) old new ends is = shared_keeps options input fault 4 old new ends is (inr refl)

shared_is_3 : (options : RunOptions) (input : List ℕ) (outcome : Result (Unit {0}) SharedRunFault) (old new : Option (List ℕ)) → Ends options input outcome old new → IsSharedStatus outcome 3 → Keeps old new
shared_is_3 options input (Ok done) old new ends (inl is) = absurd (omega (arith, is))
shared_is_3 options input (Ok done) old new ends (inr is) = absurd (omega (arith, is))
shared_is_3 options input (Err fault) old new ends is = shared_keeps options input fault 3 old new ends is (inl refl)

-- a shared run ends with 0 where it wrote a history of its trace
shared_is_0 : (options : RunOptions) (input : List ℕ) (outcome : Result (Unit {0}) SharedRunFault) (old new : Option (List ℕ)) → Ends options input outcome old new → IsSharedStatus outcome 0
    → (script : Script) × (h : HistoryState) × IsSharedRun options input script × IsHistoryOf script h × Appends old new (spelling h)
shared_is_0 options input (Ok done) old new ends is = ends
shared_is_0 options input (Err fault) old new ends is =
    elim (shared_fault_is_1_3_or_4 fault) [ inl one ↦ absurd (omega (arith, is, one)) | inr (inl three) ↦ absurd (omega (arith, is, three)) | inr (inr four) ↦ absurd (omega (arith, is, four)) ]

pub concludes_shared_0 : (options : RunOptions) (input : List ℕ) (old new : Option (List ℕ)) → ConcludesShared options input 0 old new
    → (script : Script) × (h : HistoryState) × IsSharedRun options input script × IsHistoryOf script h × Appends old new (spelling h)
concludes_shared_0 options input old new c = shared_is_0 options input c.0 old new c.1 c.2

pub concludes_shared_3 : (options : RunOptions) (input : List ℕ) (old new : Option (List ℕ)) → ConcludesShared options input 3 old new → Keeps old new
concludes_shared_3 options input old new c = shared_is_3 options input c.0 old new c.1 c.2

-- an input that is no trace at all ends with 1 or 3
shared_of_fault : (options : RunOptions) (input : List ℕ) (fault : TraceFault) (outcome : Result (Unit {0}) SharedRunFault) (status : ℕ) (old new : Option (List ℕ)) → trace_of input ≡ Err fault
    → Ends options input outcome old new → IsSharedStatus outcome status → (status ≡ 1) ⊎ (status ≡ 3)
shared_of_fault options input fault (Ok done) status old new is ends own = absurd (let read = ends.2.trace.read in cc)
shared_of_fault options input fault (Err faults.Read) status old new is ends own = inl own
shared_of_fault options input fault (Err faults.Long) status old new is ends own = inl own
shared_of_fault options input fault (Err (faults.Trace told)) status old new is ends own = inl own
shared_of_fault options input fault (Err (faults.New told)) status old new is ends own = inl own
shared_of_fault options input fault (Err (faults.Shared told)) status old new is ends own = inl own
shared_of_fault options input fault (Err faults.HistoryDiffers) status old new is ends own = absurd (let read = ends.1.trace.read in cc)
shared_of_fault options input fault (Err faults.Write) status old new is ends own = inl own
shared_of_fault options input fault (Err faults.OutOfMemory) status old new is ends own = inr own

pub concludes_shared_fault : (options : RunOptions) (input : List ℕ) (fault : TraceFault) (status : ℕ) (old new : Option (List ℕ)) → trace_of input ≡ Err fault → ConcludesShared options input status old new → (status ≡ 1) ⊎ (status ≡ 3)
concludes_shared_fault options input fault status old new is c = shared_of_fault options input fault c.0 status old new is c.1 c.2
