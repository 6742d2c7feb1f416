-- The faults of a command line, and those that come before anything is done with the file.
use Rattle.std.specs.Prelude.{◌≡◌, ⊤, Result, Err}
use Rattle.clap.specs.Words.{Kinds, Text}
use Rattle.rh_command_line.specs.declared.ask.Subcommand.{Subcommand}
use Rattle.rh_command_line.specs.declared.fault.CommandLineError.TheVariants as errors
use Rattle.rh_command_line.specs.declared.fault.CommandLineFault.{CommandLineFault}
use Rattle.rh_command_line.specs.Fault.{IsClapError}
use Rattle.rh_commands.specs.declared.fault.LineFault.{LineFault}
use Rattle.rh_commands.specs.declared.fault.LineFault.TheVariants as faults

-- a fault that reading the arguments may end with
abbrev pub IsArgumentsFault : LineFault → Type 0
IsArgumentsFault (faults.CommandLine fault) = ⊤
IsArgumentsFault faults.OutOfMemory = ⊤
IsArgumentsFault fault = ⊥

-- what clap's refusal of the arguments is told as: want of memory, or its error, of these kinds
abbrev pub IsClapFault : Kinds → LineFault → Type 0
IsClapFault kinds (faults.CommandLine fault) = IsClapError kinds (errors.Fault fault)
IsClapFault kinds faults.OutOfMemory = ⊤
IsClapFault kinds fault = ⊥

-- the fault is the one that a parse holds in place of a command
abbrev pub IsDueFault : Result (Subcommand × Text) CommandLineFault → LineFault → Type 0
IsDueFault due (faults.CommandLine fault) = due ≡ Err fault
IsDueFault due fault = ⊥

-- a fault that comes before anything is done with the file
abbrev pub IsEarlyFault : LineFault → Type 0
IsEarlyFault (faults.CommandLine fault) = ⊤
IsEarlyFault faults.NoText = ⊤
IsEarlyFault faults.Open = ⊤
IsEarlyFault faults.OutOfMemory = ⊤
IsEarlyFault fault = ⊥
