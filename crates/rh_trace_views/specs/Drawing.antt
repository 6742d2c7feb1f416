-- How the picture of a trace's heap is drawn.
use Rattle.std.specs.Prelude.{ℕ, List, Option, Result, Ok, Err}
use Rattle.std.specs.Io.KnownBytes.{Appends, Keeps}
use Rattle.rh_text.specs.Output.{AppendsLess}
use Rattle.rh_draw.specs.Picture.{IsWhole}
use Rattle.rh_trace.specs.declared.run_fault.RunFault.{RunFault}
use Rattle.rh_trace.specs.declared.run_fault.RunFault.TheVariants as faults

-- A whole picture is written; or where a write failed a prefix of one, and not all; or nothing.
abbrev pub DrawsTrace : {X : Type 0} → Result X RunFault → Option (List ℕ) → Option (List ℕ) → Type 0
DrawsTrace (Ok done) old new = (text : List ℕ) × IsWhole text × Appends old new text
DrawsTrace (Err faults.Write) old new = (text : List ℕ) × IsWhole text × AppendsLess old new text
DrawsTrace (Err fault) old new = Keeps old new
