-- Why a command line isn't read, and the status of that.
use Rattle.std.specs.Prelude.{◌≡◌, ⊤, ℕ, Result, Err}
use Rattle.clap.specs.Words.{IsAmong, Kinds, Text, kind_of}
use Rattle.clap.specs.declared.error.kind.ErrorKind.{ErrorKind}
use Rattle.clap.specs.declared.error.kind.ErrorKind.TheVariants.{DisplayHelp, DisplayVersion}
use Rattle.rh_command_line.specs.declared.ask.Subcommand.{Subcommand}
use Rattle.rh_command_line.specs.declared.fault.CommandLineError.{CommandLineError}
use Rattle.rh_command_line.specs.declared.fault.CommandLineError.TheVariants as errors
use Rattle.rh_command_line.specs.declared.fault.CommandLineFault.{CommandLineFault}
use Rattle.rh_command_line.specs.declared.fault.CommandLineFault.TheVariants as faults

-- what clap's refusal of the arguments is told as: want of memory, or its error, of these kinds
abbrev pub IsClapError : Kinds → CommandLineError → Type 0
IsClapError kinds (errors.Fault (faults.Arguments error)) = IsAmong (kind_of error) kinds
IsClapError kinds (errors.Fault fault) = ⊥
IsClapError kinds errors.OutOfMemory = ⊤

-- the error is the fault that a parse holds in place of a command
abbrev pub IsDue : Result (Subcommand × Text) CommandLineFault → CommandLineError → Type 0
IsDue due (errors.Fault fault) = due ≡ Err fault
IsDue due errors.OutOfMemory = ⊥

-- a request for help or the version is no mistake
abbrev pub arguments_status : ErrorKind → ℕ
arguments_status DisplayHelp = 0
arguments_status DisplayVersion = 0
arguments_status kind = 2

-- 0 where help or the version is asked for, and else 2
abbrev pub line_status : CommandLineFault → ℕ
line_status (faults.Arguments error) = arguments_status (kind_of error)
line_status fault = 2
