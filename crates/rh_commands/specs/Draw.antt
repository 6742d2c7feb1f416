-- How a picture of a heap, or a constant text, ends the program.
use Rattle.std.specs.Prelude.{ℕ, Option, List, Result, Ok, Err}
use Rattle.std.specs.Io.KnownBytes.{Appends, Keeps}
use Rattle.rh_text.specs.declared.output.Write.{Write}
use Rattle.rh_text.specs.Output.{AppendsLess}
use Rattle.rh_commands.specs.Count.{IsCountStatus, IsSentStatus}
use Rattle.rh_commands.specs.declared.fault.LineFault.{LineFault}
use Rattle.rh_commands.specs.declared.fault.LineFault.TheVariants as faults

-- How drawing ends: with a text written; where a write failed, with a part of one, and not all; with
-- a fault of the input or a line that it hasn't, or where a read failed or memory was refused, with
-- nothing written. No other fault comes.
abbrev pub DrawEnds : Result (Unit {0}) LineFault → Option (List ℕ) → Option (List ℕ) → Type 0
DrawEnds (Ok done) old new = (text : List ℕ) × Appends old new text
DrawEnds (Err faults.Write) old new = (text : List ℕ) × AppendsLess old new text
DrawEnds (Err (faults.Trace fault)) old new = Keeps old new
DrawEnds (Err (faults.Heap fault)) old new = Keeps old new
DrawEnds (Err faults.NoLine) old new = Keeps old new
DrawEnds (Err faults.TooLong) old new = Keeps old new
DrawEnds (Err faults.Read) old new = Keeps old new
DrawEnds (Err faults.OutOfMemory) old new = Keeps old new
DrawEnds (Err fault) old new = ⊥

-- drawing ended in such a way, and the status is that ending's
abbrev pub ConcludesDraw : ℕ → Option (List ℕ) → Option (List ℕ) → Type 0
ConcludesDraw status old new =
    (outcome : Result (Unit {0}) LineFault) × DrawEnds outcome old new × IsCountStatus outcome status

-- a text was sent, or after a failed write a part of one, and not all
abbrev pub SentEnds : Result (Unit {0}) Write → Option (List ℕ) → Option (List ℕ) → Type 0
SentEnds (Ok done) old new = (text : List ℕ) × Appends old new text
SentEnds (Err error) old new = (text : List ℕ) × AppendsLess old new text

-- a text was sent in such a way, and the status is that ending's
abbrev pub ConcludesSent : ℕ → Option (List ℕ) → Option (List ℕ) → Type 0
ConcludesSent status old new =
    (sent : Result (Unit {0}) Write) × SentEnds sent old new × IsSentStatus sent status
