-- The commands of a trace, its lines that are none, and the biggest object that it asks for.
use Rattle.std.specs.Prelude.{◌≡◌, ℕ, ◌+◌, min, max, true, false, All, List, [], ◌∷◌, take, slice_get, IsSomeAnd, Option, Some, None, Result, Ok, Err}
use Rattle.rh_layout.specs.declared.command.Command.{Command}
use Rattle.rh_layout.specs.declared.command.RootId.{RootId}
use Rattle.rh_layout.specs.declared.shape.Shape.{Shape}
use Rattle.rh_layout.specs.Command.{made_by}
use Rattle.rh_syntax.specs.declared.fault.Kind.TheVariants.{Word}
use Rattle.rh_syntax.specs.declared.fault.TraceFault.{TraceFault}
use Rattle.rh_syntax.specs.declared.request.Request.{Request}
use Rattle.rh_syntax.specs.declared.request.Request.TheVariants as requests
use Rattle.rh_syntax.specs.Reading.{fault_at}
use Rattle.rh_syntax.specs.Spelling.{Script}
use Rattle.rh_trace.specs.Events.{is_command}

-- commands, each with its owner
abbrev pub Commands : Type 0
Commands = List (ℕ × Command)

-- those among requests, in order
abbrev pub commands_in : List Request → Commands
commands_in [] = []
commands_in (requests.Command owner command ∷ others) = (owner, command) ∷ commands_in others
commands_in (other ∷ others) = commands_in others

-- the fault Word of the first request that is no command; they stand on the lines from this number
-- on
abbrev pub other_fault : ℕ → List Request → Option TraceFault
other_fault number [] = None
other_fault number (requests.Command owner command ∷ others) = other_fault (number + 1) others
other_fault number (other ∷ others) = Some (fault_at number Word)

-- the first fault of what was read, as a trace of commands alone: the trace's own comes first
abbrev pub fault_in : Result Script TraceFault → Option TraceFault
fault_in (Err fault) = Some fault
fault_in (Ok script) = other_fault 2 script.requests

-- the words of an object, where one is asked for: its fields and 2, and at most 4,097
abbrev pub words_of_asked : Option (RootId × Shape) → ℕ
words_of_asked None = 0
words_of_asked (Some made) = min (made.1.fields + 2) 4097

-- the words of the object that a command asks for
abbrev pub words_asked : Command → ℕ
words_asked command = words_of_asked (made_by command)

-- the words of the biggest object that commands ask for, and at least 2
abbrev pub biggest_of : Commands → ℕ
biggest_of [] = 2
biggest_of (owned ∷ others) = max (words_asked owned.1) (biggest_of others)

-- Laws.

-- all requests are commands
abbrev pub AreCommands : List Request → Type 0
AreCommands requests = All (λ request. is_command request ≡ true) requests

-- the request at i, from 0, is no command, and those before it are
abbrev pub IsFirstOther : List Request → ℕ → Type 0
IsFirstOther requests i =
    IsSomeAnd (slice_get requests i) (λ request. is_command request ≡ false)
    × AreCommands (take i requests)
