-- What a flush leaves of how a run ended.
use Rattle.std.proofs.Common.{ℕ, List, Option, Some, None, Result, Ok, Err, ◌∙◌, IfSome}
use Rattle.std.specs.Io.KnownBytes.{Keeps, Appends}
use Rattle.rh_text.specs.Output.{AppendsLess, AppendsPrefix}
use Rattle.rh_replay.specs.Spelling.{spelling}
use Rattle.rh_shared_trace.specs.declared.fault.SharedRunFault.{SharedRunFault}
use Rattle.rh_shared_trace.specs.declared.fault.SharedRunFault.TheVariants as shared_faults
use Rattle.rh_shared_trace.specs.declared.options.RunOptions.{RunOptions}
use Rattle.rh_shared_trace.specs.Run.{Ends as SharedEnds}
use Rattle.rh_commands.specs.Shared.{ConcludesShared, IsSharedStatus}

pub Keeps-kept : (old mid new : Option (List ℕ)) → Keeps old mid → Keeps mid new → Keeps old new
Keeps-kept None mid new k l = tt
Keeps-kept (Some xs) None new k l = absurd k
Keeps-kept (Some xs) (Some ys) None k l = absurd l
Keeps-kept (Some xs) (Some ys) (Some zs) k l = l ∙ k

pub Appends-kept : (old mid new : Option (List ℕ)) (bytes : List ℕ) → Appends old mid bytes → Keeps mid new → Appends old new bytes
Appends-kept None mid new bytes a l = tt
Appends-kept (Some xs) None new bytes a l = absurd a
Appends-kept (Some xs) (Some ys) None bytes a l = absurd l
Appends-kept (Some xs) (Some ys) (Some zs) bytes a l = l ∙ a

-- so does what was written of a text, and not all
pub AppendsLess-kept : (old mid new : Option (List ℕ)) (text : List ℕ) → AppendsLess old mid text → Keeps mid new → AppendsLess old new text
AppendsLess-kept old mid new text e k = (e.0, e.1, e.2, e.3, Appends-kept old mid new e.0 e.4 k)

-- and a prefix of one
pub AppendsPrefix-kept : (old mid new : Option (List ℕ)) (text : List ℕ) → AppendsPrefix old mid text → Keeps mid new → AppendsPrefix old new text
AppendsPrefix-kept old mid new text e k = (e.0, e.1, e.2, Appends-kept old mid new e.0 e.3 k)

-- a shared run that ended in some way has ended so after a flush too
pub SharedEnds-flushed : (options : RunOptions) (input : List ℕ) (r : Result (Unit {0}) SharedRunFault) (old mid new : Option (List ℕ)) → SharedEnds options input r old mid → Keeps mid new → SharedEnds options input r old new
SharedEnds-flushed options input (Ok done) old mid new e k =
    (e.0, e.1, e.2, e.3, Appends-kept old mid new (spelling e.1) e.4 k)
SharedEnds-flushed options input (Err shared_faults.Write) old mid new e k =
    (e.0, e.1, e.2, e.3, AppendsLess-kept old mid new (spelling e.1) e.4 k)
SharedEnds-flushed options input (Err shared_faults.Long) old mid new e k = (e.0, Keeps-kept old mid new e.1 k)
SharedEnds-flushed options input (Err (shared_faults.Trace fault)) old mid new e k = (e.0, e.1, Keeps-kept old mid new e.2 k)
SharedEnds-flushed options input (Err (shared_faults.New fault)) old mid new e k = (e.0, e.1, e.2, Keeps-kept old mid new e.3 k)
SharedEnds-flushed options input (Err (shared_faults.Shared fault)) old mid new e k = (e.0, e.1, e.2, e.3, Keeps-kept old mid new e.4 k)
SharedEnds-flushed options input (Err shared_faults.HistoryDiffers) old mid new e k = (e.0, e.1, Keeps-kept old mid new e.2 k)
SharedEnds-flushed options input (Err shared_faults.Read) old mid new e k = Keeps-kept old mid new e k
SharedEnds-flushed options input (Err shared_faults.OutOfMemory) old mid new e k = Keeps-kept old mid new e k

pub ConcludesShared-told : (options : RunOptions) (known : Option (List ℕ)) (r : Result (Unit {0}) SharedRunFault) (status : ℕ) (old mid new : Option (List ℕ)) → IfSome known (λ input. SharedEnds options input r old mid) → Keeps mid new → IsSharedStatus r status → IfSome known (λ input. ConcludesShared options input status old new)
ConcludesShared-told options None r status old mid new e k s = tt
ConcludesShared-told options (Some input) r status old mid new e k s = (r, SharedEnds-flushed options input r old mid new e k, s)
