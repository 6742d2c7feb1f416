-- What the program is asked, by what clap takes of its arguments.
use Rattle.std.specs.Prelude.{ℕ, ◌+◌, ◌-◌, ◌^◌, ◌==◌, nat_le, nat_lt, List, [], ◌∷◌, Bool, true, false, if◌then◌else◌, Option, Some, None, is_some, Result, Ok, Err, codes, find, ◌&&◌}
use Rattle.std.specs.Option.{option_map}
use Rattle.std.specs.Str.{bytes_eq}
use Rattle.rh_text.specs.Number.{number_of}
use Rattle.clap.specs.Words.{Kinds, Row, Text, subcommand_of, fault_of, first_of, first_value, found_of, takes}
use Rattle.clap.specs.declared.parser.matches.ArgMatches.{ArgMatches}
use Rattle.clap.specs.declared.builder.action.ArgAction.{ArgAction}
use Rattle.clap.specs.declared.builder.action.ArgAction.TheVariants.{SetTrue}
use Rattle.rh_command_line.specs.Table.{Argument, CommandState, rheap_app}
use Rattle.rh_command_line.specs.declared.ask.Subcommand.{Subcommand}
use Rattle.rh_command_line.specs.declared.ask.Subcommand.TheVariants.{Run, RunPaced, RunGrowing, Threads, Replay, Dump, Dot, Snapshot, Why, Draw, Session, Lisp, LispSession, Completions}
use Rattle.rh_choices.specs.declared.limits.HeapWords.{HeapWords}
use Rattle.rh_choices.specs.declared.limits.HeapWords.TheVariants.{UpTo, Just}
use Rattle.rh_choices.specs.declared.limits.Limits.{Limits}
use Rattle.rh_command_line.specs.declared.ask.Shell.TheVariants.{Bash, Zsh, Fish}
use Rattle.rh_choices.specs.declared.telling.Telling.{Telling}
use Rattle.rh_choices.specs.declared.telling.Telling.TheVariants.{Answers, Echo, Json}
use Rattle.rh_command_line.specs.declared.ask.Ask.{Ask}
use Rattle.rh_command_line.specs.declared.fault.CommandLineFault.{CommandLineFault}
use Rattle.rh_command_line.specs.declared.fault.CommandLineFault.TheVariants as faults

-- whether the value of the flag says that it was set
abbrev pub is_set : Option Text → Bool
is_set None = false
is_set (Some text) = bytes_eq text (codes "true")

-- a run at a mark that was read, or the fault where it is no number
abbrev pub run_at : Option ℕ → Result Subcommand CommandLineFault
run_at None = Err faults.Mark
run_at (Some mark) = Ok (RunPaced (Some mark))

-- the run that is asked for, paced or not, and by a mark or not; a mark is for paced runs alone
abbrev pub run_asked : Bool → Option Text → Result Subcommand CommandLineFault
run_asked false None = Ok Run
run_asked false (Some text) = Err faults.Mark
run_asked true None = Ok (RunPaced None)
run_asked true (Some text) = run_at (number_of text)

-- a run that grows to at most a number that was read, or the fault where it is no number
abbrev pub growing_to : Option ℕ → Result Subcommand CommandLineFault
growing_to None = Err faults.Grow
growing_to (Some at_most) = Ok (RunGrowing at_most)

-- the run on a heap that grows, where it is paced and has no mark
abbrev pub growing_asked : Option Text → Bool → Text → Result Subcommand CommandLineFault
growing_asked (Some mark) is_paced at_most = Err faults.Grow
growing_asked None false at_most = Err faults.Grow
growing_asked None true at_most = growing_to (number_of at_most)

-- the run that is asked for, on a heap that grows where that is given
abbrev pub run_given : Bool → Option Text → Option Text → Result Subcommand CommandLineFault
run_given is_paced mark None = run_asked is_paced mark
run_given is_paced mark (Some at_most) = growing_asked mark is_paced at_most

-- the number, if it is one and no more than the most
abbrev pub at_most : ℕ → Option ℕ → Option ℕ
at_most most None = None
at_most most (Some n) = if nat_le n most then Some n else None

-- the number that is given, if it is no more than the most, or the usual one where none is given
abbrev pub number_within : ℕ → ℕ → Option Text → Option ℕ
number_within usual most None = Some usual
number_within usual most (Some text) = at_most most (number_of text)

-- a run in threads with these numbers, or the fault of the first that is none
abbrev pub threads_with : Option ℕ → Option ℕ → Result Subcommand CommandLineFault
threads_with None idle = Err faults.Replicators
threads_with (Some replicators) None = Err faults.Idle
threads_with (Some replicators) (Some idle) = Ok (Threads replicators idle)

-- the run in threads that is asked for: 2 replicators and no idle words, where it isn't said
abbrev pub threads_asked : Option Text → Option Text → Result Subcommand CommandLineFault
threads_asked replicators idle =
    threads_with (number_within 2 8 replicators) (number_within 0 65535 idle)

-- a picture after the line of a number that was read, or the fault where it is none
abbrev pub draw_at : Option ℕ → Result Subcommand CommandLineFault
draw_at None = Err faults.Line
draw_at (Some line) = if nat_le 1 line then Ok (Draw (Some line)) else Err faults.Line

-- the picture that is asked for: after the last line where none is given
abbrev pub draw_asked : Option Text → Result Subcommand CommandLineFault
draw_asked None = Ok (Draw None)
draw_asked (Some text) = draw_at (number_of text)

-- the heap of a program: one that grows, to at most 16,777,216 words where it isn't said, or one of
-- so many words; not both
abbrev pub heap_words : Option Text → Option Text → Option HeapWords
heap_words None None = Some (UpTo 16777216)
heap_words None (Some text) = option_map UpTo (number_of text)
heap_words (Some text) None = option_map Just (number_of text)
heap_words (Some text) (Some other) = None

-- the steps of a program: 2^64 - 1 where it isn't said
abbrev pub steps_given : Option Text → Option ℕ
steps_given None = Some (2 ^ 64 - 1)
steps_given (Some text) = number_of text

-- the program of a file, or a session where there is none, of which no cycles are written
abbrev pub lisp_within : Option Text → Option Text → Limits → Result Subcommand CommandLineFault
lisp_within cycles (Some file) limits = Ok (Lisp limits)
lisp_within None None limits = Ok (LispSession limits)
lisp_within (Some out) None limits = Err faults.SessionCycles

-- that on such a heap with so many steps, or the fault of the first that is none
abbrev pub lisp_with : Option Text → Option Text → Option HeapWords → Option ℕ
    → Result Subcommand CommandLineFault
lisp_with cycles file None steps = Err faults.Words
lisp_with cycles file (Some heap) None = Err faults.Steps
lisp_with cycles file (Some heap) (Some steps) =
    lisp_within cycles file (record { heap = heap; steps = steps })

-- the program or session that is asked for: its heap of one size, or its heap that grows, its steps,
-- the file of its cycles, and its file
abbrev pub lisp_asked : Option Text → Option Text → Option Text → Option Text → Option Text
    → Result Subcommand CommandLineFault
lisp_asked heap grow steps cycles file =
    lisp_with cycles file (heap_words heap grow) (steps_given steps)

-- the completions for the shell of this name, or the fault where there are none
abbrev pub completions_for : Text → Result Subcommand CommandLineFault
completions_for name =
    if bytes_eq name (codes "bash") then Ok (Completions Bash)
    else (if bytes_eq name (codes "zsh") then Ok (Completions Zsh)
    else (if bytes_eq name (codes "fish") then Ok (Completions Fish)
    else Err faults.Shell))

-- the completions that are asked for
abbrev pub completions_asked : Option Text → Result Subcommand CommandLineFault
completions_asked None = Err faults.Incomplete
completions_asked (Some name) = completions_for name

-- the first value of each argument, by its name, if it has one
abbrev pub Given : Type 0
Given = Text → Option Text

-- those that the rows of a parse hold
abbrev pub given_in : List Row → Given
given_in rows name = first_of name rows

-- those of clap's matches
abbrev pub given_of : ArgMatches → Given
given_of values name = first_value (found_of values) name

-- a text without the @ that it may begin with
abbrev pub without_at : Text → Text
without_at [] = []
without_at (byte ∷ bytes) = if byte == 64 then bytes else byte ∷ bytes

-- the path to an object of a number that was read, or the fault where it is none
abbrev pub why_for : Option ℕ → Result Subcommand CommandLineFault
why_for None = Err faults.Object
why_for (Some object) = Ok (Why object)

-- the path that is asked for, to the object of this number
abbrev pub why_asked : Text → Result Subcommand CommandLineFault
why_asked object = why_for (number_of (without_at object))

-- What is written of a dump: its graph for Graphviz or as a heap snapshot, or the path to an object,
-- where that is asked, and else its counts. It is written in one of these forms, and as JSON only
-- its counts are.
abbrev pub dump_asked : Bool → Bool → Option Text → Option Text → Result Subcommand CommandLineFault
dump_asked false json None None = Ok Dump
dump_asked true json None None = Ok Dot
dump_asked false false (Some out) None = Ok Snapshot
dump_asked false false None (Some object) = why_asked object
dump_asked dot json snapshot why = Err faults.Forms

-- the command of this name with its options, of those that are given
abbrev pub command_named : Text → Given → Result Subcommand CommandLineFault
command_named name given =
    if bytes_eq name (codes "run")
    then run_given (is_set (given (codes "paced"))) (given (codes "mark")) (given (codes "grow"))
    else (if bytes_eq name (codes "threads")
    then threads_asked (given (codes "replicators")) (given (codes "idle"))
    else (if bytes_eq name (codes "replay") then Ok Replay
    else (if bytes_eq name (codes "dump")
    then dump_asked (is_set (given (codes "dot"))) (is_set (given (codes "json")))
    (given (codes "heapsnapshot")) (given (codes "why"))
    else (if bytes_eq name (codes "draw") then draw_asked (given (codes "line"))
    else (if bytes_eq name (codes "shell") then Ok Session
    else (if bytes_eq name (codes "lisp")
    then lisp_asked (given (codes "heap")) (given (codes "grow")) (given (codes "steps"))
    (given (codes "cycles")) (given (codes "FILE"))
    else (if bytes_eq name (codes "completions") then completions_asked (given (codes "SHELL"))
    else Err faults.Incomplete)))))))

-- 1 where this holds
abbrev pub once : Bool → ℕ
once is = if is then 1 else 0

-- whether the name of a file that is given says standard output
abbrev pub is_output : Option Text → Bool
is_output None = false
is_output (Some name) = bytes_eq name (codes "-")

-- how many of the options would have standard output each for its own text
abbrev pub output_texts : Given → ℕ
output_texts given =
    once (is_output (given (codes "cycles"))) + (once (is_output (given (codes "history")))
    + (once (is_set (given (codes "echo"))) + (once (is_set (given (codes "json")))
    + once (is_set (given (codes "dot"))))))

-- whether what is asked for has no file
abbrev pub lacks_file : Bool → Option Text → Bool
lacks_file false file = false
lacks_file true None = true
lacks_file true (Some file) = false

-- whether two files that are given are one, other than standard input and output
abbrev pub is_same_file : Option Text → Option Text → Bool
is_same_file None other = false
is_same_file (Some name) None = false
is_same_file (Some name) (Some other) =
    if bytes_eq name (codes "-") then false else bytes_eq name other

-- whether a text would go to the file that is read, or two texts to one file
abbrev pub is_crossed : Given → Bool
is_crossed given =
    if is_same_file (given (codes "cycles")) (given (codes "history")) then true
    else (if is_same_file (given (codes "cycles")) (given (codes "FILE")) then true
    else (if is_same_file (given (codes "heapsnapshot")) (given (codes "FILE")) then true
    else is_same_file (given (codes "history")) (given (codes "FILE"))))

-- the command of this name with its options, where trace events have the file of cycles, at most one
-- text is for standard output, and no text for a file that has another
abbrev pub command_asked : Text → Given → Result Subcommand CommandLineFault
command_asked name given =
    if lacks_file (is_set (given (codes "trace-events"))) (given (codes "cycles"))
    then Err faults.Events
    else (if nat_lt 1 (output_texts given) then Err faults.Views
    else (if is_crossed given then Err faults.Crossed else command_named name given))

-- how what is done is told, by the flags
abbrev pub telling_of : Bool → Bool → Telling
telling_of echo true = Json
telling_of true false = Echo
telling_of false false = Answers

-- how what is done is viewed: how it is told, the files of its cycles and of its history, and whether
-- the cycles are written as trace events
pub record Viewed : Type 0 where
  pub telling : Telling
  pub cycles : Option Text
  pub history : Option Text
  pub events : Bool

-- how it is, by the options
abbrev pub viewed_by : Given → Viewed
viewed_by given = record {
  telling = telling_of (is_set (given (codes "echo"))) (is_set (given (codes "json")));
  cycles = given (codes "cycles");
  history = given (codes "history");
  events = is_set (given (codes "trace-events"));
}

-- the file, or standard input of a command that takes none
abbrev pub file_or_input : Option Text → Text
file_or_input None = codes "-"
file_or_input (Some file) = file

-- a command with its file, or why there is none
abbrev pub with_file : Result Subcommand CommandLineFault → Option Text
    → Result (Subcommand × Text) CommandLineFault
with_file (Err fault) file = Err fault
with_file (Ok command) file = Ok (command, file_or_input file)

-- the command and the file that a parse holds: the command that it found, with its options, and the
-- first value of its file; or the fault of the options, or that one is missing
abbrev pub command_and_file_in : Option (Text × List Row)
    → Result (Subcommand × Text) CommandLineFault
command_and_file_in None = Err faults.Incomplete
command_and_file_in (Some found) =
    with_file (command_asked found.0 (given_in found.1)) (given_in found.1 (codes "FILE"))

-- whether a parse holds that a fault is to be explained
abbrev pub explains_in : Option (Text × List Row) → Bool
explains_in None = false
explains_in (Some found) = is_set (given_in found.1 (codes "explain"))

-- whether clap's parse of the arguments does
unfoldable pub explains_of : List Text → Bool
explains_of arguments = explains_in (subcommand_of (rheap_app arguments) arguments)

-- the file that a parse has for a text
abbrev pub out_in : Option (Text × List Row) → Option Text
out_in None = None
out_in (Some found) = given_in found.1 (codes "heapsnapshot")

-- and that clap's parse of the arguments has
unfoldable pub out_of : List Text → Option Text
out_of arguments = out_in (subcommand_of (rheap_app arguments) arguments)

-- how a parse says that what is done is viewed
abbrev pub viewed_in : Option (Text × List Row) → Viewed
viewed_in None = record { telling = Answers; cycles = None; history = None; events = false }
viewed_in (Some found) = viewed_by (given_in found.1)

-- how clap's parse of the arguments does
unfoldable pub viewed_of : List Text → Viewed
viewed_of arguments = viewed_in (subcommand_of (rheap_app arguments) arguments)

-- the command and the file that clap's parse of the arguments holds
unfoldable pub command_and_file_of : List Text → Result (Subcommand × Text) CommandLineFault
command_and_file_of arguments = command_and_file_in (subcommand_of (rheap_app arguments) arguments)

-- whether clap takes the arguments
unfoldable pub is_taken : List Text → Bool
is_taken arguments = takes (rheap_app arguments) arguments

-- the kinds of error that clap's parse of the arguments may end with; none where it doesn't fail
unfoldable pub error_kinds : List Text → Kinds
error_kinds arguments = fault_of (rheap_app arguments) arguments

-- the command and the file of a request
abbrev pub command_and_file : Ask → Subcommand × Text
command_and_file ask = (ask.subcommand, ask.file.now)

-- whether an argument has such a value: a flag that it was set, and any other one at all
abbrev pub is_held : Option ArgAction → Option Text → Bool
is_held (Some SetTrue) value = is_set value
is_held action value = is_some value

-- whether the argument that was found is given
abbrev pub is_given_as : Option Argument → Option Text → Bool
is_given_as None value = false
is_given_as (Some argument) value = is_held argument.rule.action value

-- whether that of this name is, of these arguments
abbrev pub is_given : List Argument → Text → Given → Bool
is_given arguments name given =
    is_given_as (find (λ argument. bytes_eq argument.rule.id name) arguments) (given name)

-- whether a parse holds this command with an argument of this name
abbrev pub stands_in : Option (Text × List Row) → CommandState → Text → Bool
stands_in None command name = false
stands_in (Some found) command name = bytes_eq found.0 command.name
    && is_given command.arguments name (given_in found.1)

-- whether clap's parse of the arguments does
unfoldable pub stands_on : List Text → CommandState → Text → Bool
stands_on arguments command name =
    stands_in (subcommand_of (rheap_app arguments) arguments) command name
