-- The table of the command line, and what clap knows of the command line that is made of it.
use Rattle.std.specs.Prelude.{List, [], ◌∷◌, Bool, true, false, if◌then◌else◌, Some, map, codes, fold}
use Rattle.std.specs.List.{list_any}
use Rattle.std.specs.Str.{bytes_eq}
use Rattle.clap.specs.declared.builder.action.ArgAction.TheVariants.{SetTrue}
use Rattle.clap.specs.Words.{App, Rule, Text, new_app, new_rule, with_rule, with_subcommand}
use Rattle.rh_command_line.specs.declared.table.ArgumentRow.{ArgumentRow}
use Rattle.rh_command_line.specs.declared.table.CommandRow.{CommandRow}
use Rattle.rh_command_line.specs.declared.table.Spelling.{Spelling}
use Rattle.rh_command_line.specs.declared.table.Spelling.TheVariants.{Word, Flag, Valued}

-- an argument of a command: clap's rule for it, the arguments without which it is refused, and those
-- beside which it is
pub record Argument : Type 0 where
  pub rule : Rule
  pub needs : List Text
  pub not_with : List Text

-- a command, and what may stand behind it
pub record CommandState : Type 0 where
  pub name : Text
  pub arguments : List Argument

-- clap's rule for a word of this name, which is required or not
abbrev pub word_rule : Text → Bool → Rule
word_rule name is_required = record (new_rule name) { required = is_required }

-- and for an option with a value
abbrev pub option_rule : Text → Rule
option_rule name = record (new_rule name) { long = Some name; value_names = 1 }

-- and for a flag
abbrev pub flag_rule : Text → Rule
flag_rule name = record (new_rule name) { long = Some name; action = Some SetTrue }

-- and for an argument that is spelled so
abbrev pub spelled_rule : Text → Spelling → Rule
spelled_rule name (Word is_required) = word_rule name is_required
spelled_rule name Flag = flag_rule name
spelled_rule name (Valued value) = option_rule name

-- clap's rule for a row of the program's table
abbrev pub row_rule : ArgumentRow → Rule
row_rule row = spelled_rule row.name.now row.spelling

-- what a row of the program's table says of an argument, but for its help
abbrev pub argument_row : ArgumentRow → Argument
argument_row row = record {
  rule = row_rule row;
  needs = map (λ t. t.now) row.needs.now;
  not_with = map (λ t. t.now) row.not_with.now;
}

-- and of a command
abbrev pub command_row : CommandRow → CommandState
command_row row = record {
  name = row.name.now;
  arguments = map argument_row row.arguments.now;
}

-- a word, which stands with any other argument
abbrev pub word_of : Text → Bool → Argument
word_of name is_required = record {
  rule = word_rule name is_required;
  needs = [];
  not_with = [];
}

-- a flag, and an option with a value, which need these and don't stand with those
abbrev pub flag_of : Text → List Text → List Text → Argument
flag_of name needs not_with = record {
  rule = flag_rule name;
  needs = needs;
  not_with = not_with;
}

abbrev pub option_of : Text → List Text → List Text → Argument
option_of name needs not_with = record {
  rule = option_rule name;
  needs = needs;
  not_with = not_with;
}

-- what several commands have: a file, which is required, explanations, and how what is done is told
abbrev pub file_argument : Argument
file_argument = word_of (codes "FILE") true

abbrev pub explain_argument : Argument
explain_argument = flag_of (codes "explain") [] []

abbrev pub echo_argument : Argument
echo_argument = flag_of (codes "echo") [] (codes "json" ∷ [])

abbrev pub json_argument : Argument
json_argument = flag_of (codes "json") [] []

-- what may stand behind each command
abbrev pub run_arguments : List Argument
run_arguments = file_argument
    ∷ explain_argument
    ∷ flag_of (codes "paced") [] []
    ∷ option_of (codes "mark") (codes "paced" ∷ []) (codes "grow" ∷ [])
    ∷ option_of (codes "grow") (codes "paced" ∷ []) []
    ∷ option_of (codes "cycles") [] []
    ∷ flag_of (codes "trace-events") (codes "cycles" ∷ []) []
    ∷ option_of (codes "history") [] []
    ∷ echo_argument
    ∷ json_argument
    ∷ []

abbrev pub threads_arguments : List Argument
threads_arguments = file_argument
    ∷ explain_argument
    ∷ option_of (codes "replicators") [] []
    ∷ option_of (codes "idle") [] []
    ∷ []

abbrev pub replay_arguments : List Argument
replay_arguments = file_argument ∷ explain_argument ∷ echo_argument ∷ json_argument ∷ []

abbrev pub dump_arguments : List Argument
dump_arguments = file_argument
    ∷ explain_argument
    ∷ flag_of (codes "dot") [] (codes "json" ∷ [])
    ∷ option_of (codes "heapsnapshot") [] (codes "dot" ∷ codes "json" ∷ [])
    ∷ option_of (codes "why") [] (codes "dot" ∷ codes "heapsnapshot" ∷ codes "json" ∷ [])
    ∷ json_argument
    ∷ []

abbrev pub draw_arguments : List Argument
draw_arguments = file_argument ∷ explain_argument ∷ option_of (codes "line") [] [] ∷ []

abbrev pub lisp_arguments : List Argument
lisp_arguments = word_of (codes "FILE") false
    ∷ option_of (codes "heap") [] (codes "grow" ∷ [])
    ∷ option_of (codes "grow") [] []
    ∷ option_of (codes "steps") [] []
    ∷ option_of (codes "cycles") (codes "FILE" ∷ []) []
    ∷ flag_of (codes "trace-events") (codes "cycles" ∷ []) []
    ∷ explain_argument
    ∷ []

abbrev pub completions_arguments : List Argument
completions_arguments = word_of (codes "SHELL") true ∷ []

-- a command with these arguments
abbrev pub command_with : Text → List Argument → CommandState
command_with name arguments = record { name = name; arguments = arguments }

-- the commands
abbrev pub table : List CommandState
table = command_with (codes "run") run_arguments
    ∷ command_with (codes "threads") threads_arguments
    ∷ command_with (codes "replay") replay_arguments
    ∷ command_with (codes "dump") dump_arguments
    ∷ command_with (codes "draw") draw_arguments
    ∷ command_with (codes "shell") []
    ∷ command_with (codes "lisp") lisp_arguments
    ∷ command_with (codes "completions") completions_arguments
    ∷ []

-- a command with these arguments more
abbrev pub with_arguments : App → List Argument → App
with_arguments app arguments = fold (λ a argument. with_rule a argument.rule) app arguments

-- the program: a version, and a command that is required
abbrev pub rheap_top : App
rheap_top =
    let new = new_app (codes "rheap")
    in record new { top = record new.top { has_version = true; subcommand_required = true } }

-- the first word after the program's name; empty where there is none
abbrev pub first_word : List Text → Text
first_word [] = []
first_word (name ∷ []) = []
first_word (name ∷ word ∷ words) = word

-- whether a word is the name of a command
abbrev pub names_command : Text → Bool
names_command word = list_any (λ (command : CommandState). bytes_eq word command.name) table

-- whether the command of this name has its options where the word is the first: it names that
-- command, or none
abbrev pub has_options : Text → Text → Bool
has_options word name = if names_command word then bytes_eq word name else true

-- a command where the word is the first: whole, or its name alone
abbrev pub command_for : Text → CommandState → App
command_for word command =
    if has_options word command.name
    then with_arguments (new_app command.name) command.arguments
    else new_app command.name

-- the program with these commands more, where the word is the first
abbrev pub with_commands : Text → App → List CommandState → App
with_commands word app commands =
    fold (λ a command. with_subcommand a (command_for word command).top) app commands

-- the program with its commands, where the word is the first
abbrev pub rheap_app_for : Text → App
rheap_app_for word = with_commands word rheap_top table

-- the program with its commands, where these are the arguments
abbrev pub rheap_app : List Text → App
rheap_app arguments = rheap_app_for (first_word arguments)
