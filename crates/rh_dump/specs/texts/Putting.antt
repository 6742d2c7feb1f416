-- A graph put together of the lines of a dump, as they are read one after the other.
use Rattle.std.specs.Prelude.{◌≡◌, ℕ, ◌<◌, ◌≤◌, ◌⊎◌, ⊤, Option, List, [], ◌∷◌, ◌++◌, length, fold, Result, Ok, Err, ◌==◌, if◌then◌else◌}
use Rattle.std.specs.Io.KnownBytes.{Consumes, IsAtEnd}
use Rattle.rh_layout.specs.declared.value.Value.{Value}
use Rattle.rh_layout.specs.declared.command.RootId.{RootId}
use Rattle.rh_layout.specs.declared.shape.Shape.{Shape}
use Rattle.rh_layout.specs.Shape.{shape_of}
use Rattle.rh_text.specs.Steps.{◌>>=◌, or_fault}
use Rattle.rh_dump.specs.Dump.{GraphState, met_after}
use Rattle.rh_dump.specs.Graph.{FlatGraph}
use Rattle.rh_dump.specs.texts.Line.{DumpLine, root_line, object_line, due_after}
use Rattle.rh_dump.specs.texts.Part.{object_head}
use Rattle.rh_dump.specs.texts.Reading.{formed_parts, number_or_fault, root_of_parts, own_number, fault_at, graph_of_text}
use Rattle.rh_dump.specs.declared.reading.due.Due.{Due}
use Rattle.rh_dump.specs.declared.reading.due.Due.TheVariants as dues
use Rattle.rh_dump.specs.declared.reading.due.Version.{Version}
use Rattle.rh_dump.specs.declared.reading.fault.DumpKind.{DumpKind}
use Rattle.rh_dump.specs.declared.reading.fault.DumpKind.TheVariants.{Form}
use Rattle.rh_dump.specs.declared.reading.fault.DumpFault.{DumpFault}
use Rattle.rh_dump.specs.declared.reading.read_error.LineError.{LineError}
use Rattle.rh_dump.specs.declared.reading.read_error.LineError.TheVariants.{Kind, OutOfMemory}
use Rattle.rh_dump.specs.declared.reading.read_error.DumpReadError.{DumpReadError}
use Rattle.rh_dump.specs.declared.reading.read_error.DumpReadError.TheVariants as errors

-- the graph that is stored so, with one line more
abbrev pub put_line : FlatGraph → DumpLine → FlatGraph
put_line flat (root_line root value) = record flat { roots = flat.roots ++ (root, value) ∷ [] }
put_line flat (object_line number object) =
    record flat {
      shapes = flat.shapes ++ shape_of (length object.fields) object.raw ∷ [];
      values = flat.values ++ object.fields;
    }
put_line flat line = flat

-- a line that was read is put at the end, and what is due after it
abbrev pub put_read : FlatGraph → Due → Result DumpLine DumpKind → Result (FlatGraph × Due) DumpKind
put_read flat due read = read >>= λ line. Ok (put_line flat line, due_after due line)

-- what is due after a line that was read
abbrev pub due_read : Due → Result DumpLine DumpKind → Result Due DumpKind
due_read due read = read >>= λ line. Ok (due_after due line)

-- values that were read are put at the end, and how many objects are met with them, where so many
-- were met before
abbrev pub put_values : FlatGraph → ℕ → Result (List Value) DumpKind
    → Result (FlatGraph × ℕ) DumpKind
put_values flat met read =
    read >>= λ values. Ok (record flat { values = flat.values ++ values }, met_after met values)

-- lines that were read are put at the end, one after the other
abbrev pub put_lines : FlatGraph → Result (List DumpLine) DumpFault → Result FlatGraph DumpFault
put_lines flat read = read >>= λ lines. Ok (fold put_line flat lines)

-- a root that isn't nil, and what it holds, by its line
unfoldable pub root_in : Option RootId → ℕ → List ℕ → Result (RootId × Value) DumpKind
root_in last met line = do
  parts ← formed_parts line
  root_of_parts last met parts

-- the shape of an object, by its line, and the parts of its fields' values
unfoldable pub start_of : Version → ℕ → ℕ → List ℕ → Result (Shape × List (List ℕ)) DumpKind
start_of version number met line = do
  parts ← formed_parts line
  head ← or_fault (object_head version parts) Form
  own ← own_number number met head.0
  fields ← number_or_fault 4095 head.2
  if length head.3 == fields then Ok (shape_of fields head.1, head.3) else Err Form

-- what is met where something is due is within the limits
abbrev pub IsDue : Due → Type 0
IsDue dues.Header = ⊤
IsDue (dues.Roots version) = ⊤
IsDue (dues.Root version left last met) = met ≤ 16777216
IsDue (dues.Objects version met) = met ≤ 16777216
IsDue (dues.Object version number count met) = (met ≤ count) × (count ≤ 16777216)
IsDue dues.End = ⊤
IsDue dues.Nothing = ⊤

-- what a function returned, seen by view, is what reading gives, unless memory ran out
abbrev pub Tells : {Returned Told : Type 0} → (Returned → Told) → Result Returned LineError
    → Result Told DumpKind → Type 0
Tells view (Ok x) read = read ≡ Ok (view x)
Tells view (Err (Kind kind)) read = read ≡ Err kind
Tells view (Err OutOfMemory) read = Unit {0}

-- why a text isn't read whose line of this number isn't
abbrev pub error_in : ℕ → LineError → DumpReadError
error_in number (Kind kind) = errors.Fault (fault_at number kind)
error_in number OutOfMemory = errors.OutOfMemory

-- the same of a text at hand, of which no read is made
abbrev pub Gives : {Returned Told : Type 0} → (Returned → Told) → Result Returned DumpReadError
    → Result Told DumpFault → Type 0
Gives view (Ok x) read = read ≡ Ok (view x)
Gives view (Err (errors.Fault fault)) read = read ≡ Err fault
Gives view (Err errors.Read) read = ⊥
Gives view (Err errors.OutOfMemory) read = Unit {0}

-- How reading a dump ends, by the input that a reader had: with the graph whose dump it is, seen by
-- view, or with its first fault. A read that failed and want of memory say nothing of it.
abbrev pub Reads : {Returned : Type 0} → (Returned → GraphState)
    → Result Returned DumpReadError → List ℕ → Type 0
Reads view (Ok x) input = graph_of_text input ≡ Ok (view x)
Reads view (Err (errors.Fault fault)) input = graph_of_text input ≡ Err fault
Reads view (Err errors.Read) input = Unit {0}
Reads view (Err errors.OutOfMemory) input = Unit {0}

-- All bytes that a reader had were taken where it gave a graph; where it gave a fault, all of them
-- or more than a dump may have; where a read failed, no more than that.
abbrev pub TakesAll : {Returned : Type 0} → Result Returned DumpReadError → List ℕ
    → Option (List ℕ) → Type 0
TakesAll (Ok x) bytes left = IsAtEnd left
TakesAll (Err (errors.Fault fault)) bytes left = (268435456 < length bytes) ⊎ IsAtEnd left
TakesAll (Err errors.Read) bytes left = length bytes ≤ 268435456
TakesAll (Err errors.OutOfMemory) bytes left = Unit {0}

-- the reader gave some bytes, and reading ends by these
abbrev pub ReadsDump : {Returned : Type 0} → Option (List ℕ) → Option (List ℕ)
    → (Returned → GraphState) → Result Returned DumpReadError → Type 0
ReadsDump old new view result =
    (bytes : List ℕ) × Consumes old new bytes × Reads view result bytes × TakesAll result bytes new
