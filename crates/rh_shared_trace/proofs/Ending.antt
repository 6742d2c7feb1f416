-- How a run ends, from how its history was written.
use Rattle.std.proofs.Common.{◌≡◌, ℕ, List, Option, Some, None, Result, Ok, Err, refl}
use Rattle.rh_syntax.specs.Spelling.{Script}
use Rattle.rh_replay.specs.History.{HistoryState}
use Rattle.rh_shared_trace.specs.declared.fault.SharedRunFault.{SharedRunFault}
use Rattle.rh_shared_trace.specs.declared.fault.SharedRunFault.TheVariants as faults
use Rattle.rh_shared_trace.specs.declared.options.RunOptions.{RunOptions}
use Rattle.rh_shared_trace.specs.Run.{Ends, EndsWriting, IsSharedRun}

-- an option that is no value is none
pub none-where : {X : Type 0} (o : Option X) → ((x : X) → o ≡ Some x → ⊥) → o ≡ None
none-where None other = refl
none-where (Some x) other = absurd (other x refl)

pub ends-where_written : (options : RunOptions) (input : List ℕ) (script : Script) (h : HistoryState) (result : Result (Unit {0}) SharedRunFault) (old new : Option (List ℕ))
    → IsSharedRun options input script → EndsWriting script h result old new → Ends options input result old new
ends-where_written options input script h (Ok done) old new run written = (script, h, run, written.0, written.1)
ends-where_written options input script h (Err faults.Write) old new run written = (script, h, run, written.0, written.1)
ends-where_written options input script h (Err faults.HistoryDiffers) old new run differs = (script, run, differs.1)
ends-where_written options input script h (Err faults.OutOfMemory) old new run same = same
ends-where_written options input script h (Err faults.Read) old new run none = absurd none
ends-where_written options input script h (Err faults.Long) old new run none = absurd none
ends-where_written options input script h (Err (faults.Trace fault)) old new run none = absurd none
ends-where_written options input script h (Err (faults.New fault)) old new run none = absurd none
ends-where_written options input script h (Err (faults.Shared fault)) old new run none = absurd none
