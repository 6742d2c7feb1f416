-- Which limits of its heap the lines of a trace may come to.
use Rattle.std.specs.Prelude.{ℕ, ◌+◌, nat_lt, min, List, [], ◌∷◌, Option, Some, None}
use Rattle.rh_layout.specs.declared.command.Command.{Command}
use Rattle.rh_layout.specs.declared.command.Command.TheVariants.{Store}
use Rattle.rh_layout.specs.declared.command.RootId.{RootId}
use Rattle.rh_layout.specs.declared.shape.Shape.{Shape}
use Rattle.rh_layout.specs.Command.{made_by}
use Rattle.rh_syntax.specs.declared.line.Header.{Header}
use Rattle.rh_syntax.specs.declared.request.Request.{Request}
use Rattle.rh_syntax.specs.declared.request.Request.TheVariants as requests
use Rattle.rh_shared_trace.specs.declared.trace_limits.Limit.{Limit}
use Rattle.rh_shared_trace.specs.declared.trace_limits.Limit.TheVariants.{Space, Log}
use Rattle.rh_shared_trace.specs.declared.trace_limits.TraceLimits.{TraceLimits}

-- the words of an object, where one is asked for: 2 and its fields, and at most 4,097
abbrev pub words_of_asked : Option (RootId × Shape) → ℕ
words_of_asked None = 0
words_of_asked (Some made) = 2 + min made.1.fields 4095

-- the words of the object that a command asks for
abbrev pub words_asked : Command → ℕ
words_asked command = words_of_asked (made_by command)

-- the entries of the log that a command takes at most: one for a store
abbrev pub entries_asked : Command → ℕ
entries_asked (Store obj field operand) = 1
entries_asked command = 0

-- how much of what is limited a command takes at most
abbrev pub taken_by_command : Limit → Command → ℕ
taken_by_command Space command = words_asked command
taken_by_command Log command = entries_asked command

-- how much of it a line takes
abbrev pub taken_by : Limit → Request → ℕ
taken_by limit (requests.Command owner command) = taken_by_command limit command
taken_by limit other = 0

-- how much of it lines take together
abbrev pub taken_by_all : Limit → List Request → ℕ
taken_by_all limit [] = 0
taken_by_all limit (request ∷ others) = taken_by limit request + taken_by_all limit others

-- which limits the lines of a trace may come to: those of which they may take more than there is
abbrev pub limits_of : Header → List Request → TraceLimits
limits_of header lines = record {
  space = nat_lt header.words (taken_by_all Space lines);
  log = nat_lt header.log (taken_by_all Log lines);
}
