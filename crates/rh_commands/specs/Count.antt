-- How writing the counts of a dump, its graph in a form, or a path in it, ends the program.
use Rattle.std.specs.Prelude.{◌≡◌, ℕ, ◌⊎◌, Option, List, ◌∷◌, [], ◌++◌, length, Result, Ok, Err, codes, decimal}
use Rattle.std.specs.Io.KnownBytes.{Appends, Keeps}
use Rattle.rh_text.specs.declared.output.Write.{Write}
use Rattle.rh_text.specs.Output.{AppendsLess}
use Rattle.rh_dump.specs.Dump.{GraphState}
use Rattle.rh_dump.specs.texts.Reading.{graph_of_text}
use Rattle.rh_dot.specs.Dot.{dot_text}
use Rattle.rh_snapshot.specs.Text.{snapshot_text}
use Rattle.rh_why.specs.Path.{why_text}
use Rattle.rh_commands.specs.declared.fault.LineFault.{LineFault}
use Rattle.rh_commands.specs.declared.fault.LineFault.TheVariants as faults
use Rattle.rh_commands.specs.Fault.{status_of}

-- roots R objects N
abbrev pub counts_line : GraphState → List ℕ
counts_line g =
    codes "roots " ++ (decimal (length g.roots) ++ (codes " objects " ++ (decimal (length g.objects)
    ++ 10 ∷ [])))

-- How writing a text of a dump's graph ends: with the whole text of the graph that the input is the
-- dump of written; where a write failed, with a part of it, and not all; with the first fault of
-- the input, or where a read failed or memory was refused, with nothing written. No other fault
-- comes.
abbrev pub DumpEnds : (GraphState → List ℕ) → List ℕ → Result (Unit {0}) LineFault
    → Option (List ℕ) → Option (List ℕ) → Type 0
DumpEnds text input (Ok done) old new =
    (g : GraphState) × (graph_of_text input ≡ Ok g) × Appends old new (text g)
DumpEnds text input (Err faults.Write) old new =
    (g : GraphState) × (graph_of_text input ≡ Ok g) × AppendsLess old new (text g)
DumpEnds text input (Err (faults.Dump fault)) old new =
    (graph_of_text input ≡ Err fault) × Keeps old new
DumpEnds text input (Err faults.Read) old new = Keeps old new
DumpEnds text input (Err faults.OutOfMemory) old new = Keeps old new
DumpEnds text input (Err fault) old new = ⊥

-- the status after the text was sent: 0, or 1 where the last flush failed; and 1 where a write
-- failed
abbrev pub IsSentStatus : Result (Unit {0}) Write → ℕ → Type 0
IsSentStatus (Ok done) status = (status ≡ 0) ⊎ (status ≡ 1)
IsSentStatus (Err error) status = status ≡ 1

-- the status after writing: 0, or 1 where the last flush failed; and a fault's own
abbrev pub IsCountStatus : Result (Unit {0}) LineFault → ℕ → Type 0
IsCountStatus (Ok done) status = (status ≡ 0) ⊎ (status ≡ 1)
IsCountStatus (Err fault) status = status ≡ status_of fault

-- writing such a text ended in a way that fits its input and what was written, and the status is
-- that ending's
abbrev pub ConcludesDump : (GraphState → List ℕ) → List ℕ → ℕ → Option (List ℕ) → Option (List ℕ)
    → Type 0
ConcludesDump text input status old new =
    (outcome : Result (Unit {0}) LineFault) × DumpEnds text input outcome old new
    × IsCountStatus outcome status

-- counting ended so: the text is the line of the counts
abbrev pub ConcludesCount : List ℕ → ℕ → Option (List ℕ) → Option (List ℕ) → Type 0
ConcludesCount input status old new = ConcludesDump counts_line input status old new

-- writing the graph ended so: the text is that for Graphviz
abbrev pub ConcludesDot : List ℕ → ℕ → Option (List ℕ) → Option (List ℕ) → Type 0
ConcludesDot input status old new = ConcludesDump dot_text input status old new

-- writing it as a heap snapshot did
abbrev pub ConcludesSnapshot : List ℕ → ℕ → Option (List ℕ) → Option (List ℕ) → Type 0
ConcludesSnapshot input status old new = ConcludesDump snapshot_text input status old new

-- telling the path to the object of a number did
abbrev pub ConcludesWhy : ℕ → List ℕ → ℕ → Option (List ℕ) → Option (List ℕ) → Type 0
ConcludesWhy object input status old new = ConcludesDump (why_text object) input status old new
