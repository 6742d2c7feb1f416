-- The lines of a trace that can't be played on a shared heap.
use Rattle.std.specs.Prelude.{ℕ, ◌+◌, nat_lt, if◌then◌else◌, List, [], ◌∷◌, Option, Some, None, Result, Ok, Err}
use Rattle.rh_syntax.specs.declared.fault.Kind.{Kind}
use Rattle.rh_syntax.specs.declared.fault.Kind.TheVariants.{Root, Word}
use Rattle.rh_syntax.specs.declared.fault.TraceFault.{TraceFault}
use Rattle.rh_syntax.specs.declared.request.Request.{Request}
use Rattle.rh_syntax.specs.declared.request.Request.TheVariants as requests
use Rattle.rh_syntax.specs.Reading.{fault_at}
use Rattle.rh_syntax.specs.Spelling.{Script}

-- what is wrong with a request, if it is no command of one of so many owners
abbrev pub kind_of : ℕ → Request → Option Kind
kind_of owners (requests.Command owner command) = if nat_lt owner owners then None else Some Root
kind_of owners other = Some Word

-- a fault of this kind on the line of this number, or else that of the later lines
abbrev pub fault_or : Option Kind → ℕ → Option TraceFault → Option TraceFault
fault_or (Some kind) number later = Some (fault_at number kind)
fault_or None number later = later

-- the first fault of requests, if they aren't all commands of these owners; they stand on the lines
-- from this number on
abbrev pub line_fault : ℕ → ℕ → List Request → Option TraceFault
line_fault owners number [] = None
line_fault owners number (request ∷ others) =
    fault_or (kind_of owners request) number (line_fault owners (number + 1) others)

-- the first fault of what was read, as a trace of commands of its owners alone: the trace's own
-- comes first
abbrev pub fault_in : Result Script TraceFault → Option TraceFault
fault_in (Err fault) = Some fault
fault_in (Ok script) = line_fault script.header.owners 2 script.requests
