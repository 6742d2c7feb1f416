-- How writing a text of a dump's graph ends.
use Rattle.std.proofs.Common.{◌≡◌, ℕ, List, Option, Some, None, Result, Ok, Err, OnOk, OnErr, IfSome, refl, subst}
use Rattle.std.specs.Io.KnownBytes.{Appends, Keeps}
use Rattle.rh_text.specs.declared.output.Write.{Write}
use Rattle.rh_text.specs.Output.{AppendsLess}
use Rattle.rh_text.specs.lemmas.Appends.{Keeps-same}
use Rattle.rh_dump.specs.declared.reading.fault.DumpFault.{DumpFault}
use Rattle.rh_dump.specs.declared.reading.read_error.DumpReadError.{DumpReadError}
use Rattle.rh_dump.specs.declared.reading.read_error.DumpReadError.TheVariants as errors
use Rattle.rh_dump.specs.Dump.{GraphState}
use Rattle.rh_dump.specs.texts.Putting.{Reads}
use Rattle.rh_dump.specs.texts.Reading.{graph_of_text}
use Rattle.rh_commands.specs.declared.fault.LineFault.TheVariants as faults
use Rattle.rh_commands.specs.Count.{ConcludesDump, IsSentStatus}
use Rattle.rh_commands.proofs.Flushed.{Appends-kept}

-- the input has a fault
pub fault_read : (error : DumpReadError) (fault : DumpFault) (input : List ℕ) → error ≡ errors.Fault fault → Reads (λ (x : GraphState). x) (Err error) input → graph_of_text input ≡ Err fault
fault_read error fault input is read = subst (λ (e : DumpReadError). Reads (λ (x : GraphState). x) (Err e) input) is read

-- such an input is told of
pub uncounted_fault : (text : GraphState → List ℕ) (input : List ℕ) (fault : DumpFault) (a : Option (List ℕ)) → graph_of_text input ≡ Err fault → ConcludesDump text input 1 a a
uncounted_fault text input fault a is = (Err (faults.Dump fault), (is, Keeps-same a), refl)

-- a read failed
pub uncounted_read : (text : GraphState → List ℕ) (input : List ℕ) (a : Option (List ℕ)) → ConcludesDump text input 1 a a
uncounted_read text input a = (Err faults.Read, Keeps-same a, refl)

-- memory was refused
pub uncounted_memory : (text : GraphState → List ℕ) (input : List ℕ) (a : Option (List ℕ)) → ConcludesDump text input 3 a a
uncounted_memory text input a = (Err faults.OutOfMemory, Keeps-same a, refl)

-- the text of a graph was sent, or some of it, and flushed
pub counted : (text : GraphState → List ℕ) (sent : Result (Unit {0}) Write) (status : ℕ) (g : GraphState) (written : List ℕ) (old mid new : Option (List ℕ)) → written ≡ text g
    → OnOk sent (Appends old mid written) → OnErr sent (AppendsLess old mid written) → Keeps mid new → IsSentStatus sent status
    → (input : List ℕ) → graph_of_text input ≡ Ok g → ConcludesDump text input status old new
counted text (Ok done) status g written old mid new is ok err kept ends input read =
    (Ok done, (g, read, Appends-kept old mid new (text g) (subst (Appends old mid) is ok) kept), ends)
counted text (Err error) status g written old mid new is ok err kept ends input read =
    let less : AppendsLess old mid (text g) = subst (AppendsLess old mid) is err in
    (Err faults.Write, (g, read, (less.0, less.1, less.2, less.3, Appends-kept old mid new less.0 less.4 kept)), ends)
