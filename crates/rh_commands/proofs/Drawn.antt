-- How drawing a heap ends.
use Rattle.std.proofs.Common.{◌≡◌, ℕ, List, Option, Result, Ok, Err, OnOk, OnErr, refl}
use Rattle.std.specs.Io.KnownBytes.{Appends, Keeps}
use Rattle.rh_text.specs.declared.output.Write.{Write}
use Rattle.rh_text.specs.Output.{AppendsLess}
use Rattle.rh_text.specs.lemmas.Appends.{Keeps-same}
use Rattle.rh_trace.specs.declared.run_fault.RunFault.{RunFault}
use Rattle.rh_trace.specs.declared.run_fault.RunFault.TheVariants as run_faults
use Rattle.rh_trace.specs.Ways.{of_run_fault}
use Rattle.rh_commands.specs.declared.fault.LineFault.{LineFault}
use Rattle.rh_commands.specs.declared.fault.LineFault.TheVariants as faults
use Rattle.rh_commands.specs.Draw.{ConcludesDraw, DrawEnds, SentEnds}
use Rattle.rh_commands.specs.Runs.{way_told_as}
use Rattle.rh_commands.proofs.Flushed.{Appends-kept, AppendsLess-kept, Keeps-kept}

-- nothing was drawn, since a read failed
pub undrawn_read : (a : Option (List ℕ)) → ConcludesDraw 1 a a
undrawn_read a = (Err faults.Read, Keeps-same a, refl)

-- nor since there were too many bytes
pub undrawn_long : (a : Option (List ℕ)) → ConcludesDraw 1 a a
undrawn_long a = (Err faults.TooLong, Keeps-same a, refl)

-- nor since memory was refused
pub undrawn_memory : (a : Option (List ℕ)) → ConcludesDraw 3 a a
undrawn_memory a = (Err faults.OutOfMemory, Keeps-same a, refl)

-- how a picture of the trace's heap ended, by the fault that it ended with
pub drawn_fault : (fault : RunFault) (told : LineFault) (old new : Option (List ℕ)) → told ≡ way_told_as (of_run_fault fault)
    → (fault ≡ run_faults.Write → (text : List ℕ) × AppendsLess old new text) → (¬ (fault ≡ run_faults.Write) → Keeps old new) → DrawEnds (Err told) old new
drawn_fault run_faults.Read told old new is prefix nothing = rw is (nothing (λ e. cc))
drawn_fault run_faults.Long told old new is prefix nothing = rw is (nothing (λ e. cc))
drawn_fault (run_faults.Trace fault) told old new is prefix nothing = rw is (nothing (λ e. cc))
drawn_fault (run_faults.New fault) told old new is prefix nothing = rw is (nothing (λ e. cc))
drawn_fault run_faults.Write told old new is prefix nothing = rw is (prefix refl)
drawn_fault run_faults.OutOfMemory told old new is prefix nothing = rw is (nothing (λ e. cc))

-- drawing that ended in some way has ended so after a flush too
pub DrawEnds-flushed : (outcome : Result (Unit {0}) LineFault) (old mid new : Option (List ℕ)) → DrawEnds outcome old mid → Keeps mid new → DrawEnds outcome old new
DrawEnds-flushed (Ok done) old mid new e k = (e.0, Appends-kept old mid new e.0 e.1 k)
DrawEnds-flushed (Err faults.Write) old mid new e k = (e.0, AppendsLess-kept old mid new e.0 e.1 k)
DrawEnds-flushed (Err (faults.Trace fault)) old mid new e k = Keeps-kept old mid new e k
DrawEnds-flushed (Err (faults.Heap fault)) old mid new e k = Keeps-kept old mid new e k
DrawEnds-flushed (Err faults.NoLine) old mid new e k = Keeps-kept old mid new e k
DrawEnds-flushed (Err faults.TooLong) old mid new e k = Keeps-kept old mid new e k
DrawEnds-flushed (Err faults.Read) old mid new e k = Keeps-kept old mid new e k
DrawEnds-flushed (Err faults.OutOfMemory) old mid new e k = Keeps-kept old mid new e k
DrawEnds-flushed (Err fault) old mid new e k = absurd e

-- a text was sent, or some of it, and flushed
pub SentEnds-flushed : (sent : Result (Unit {0}) Write) (text : List ℕ) (old mid new : Option (List ℕ)) → OnOk sent (Appends old mid text) → OnErr sent (AppendsLess old mid text)
    → Keeps mid new → SentEnds sent old new
SentEnds-flushed (Ok done) text old mid new ok err k = (text, Appends-kept old mid new text ok k)
SentEnds-flushed (Err error) text old mid new ok err k = (text, AppendsLess-kept old mid new text err k)
