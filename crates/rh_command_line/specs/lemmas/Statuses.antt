-- The statuses of faults of a command line.
use Rattle.std.proofs.Common.{◌≤◌, ℕ, arith}
use Rattle.clap.specs.Words.{kind_of}
use Rattle.clap.specs.declared.error.kind.ErrorKind.{ErrorKind}
use Rattle.clap.specs.declared.error.kind.ErrorKind.TheVariants.{DisplayHelp, DisplayVersion}
use Rattle.rh_command_line.specs.declared.fault.CommandLineFault.{CommandLineFault}
use Rattle.rh_command_line.specs.declared.fault.CommandLineFault.TheVariants as faults
use Rattle.rh_command_line.specs.Fault.{arguments_status, line_status}

arguments_at_most_2 : (kind : ErrorKind) → arguments_status kind ≤ 2
arguments_at_most_2 DisplayHelp = omega arith
arguments_at_most_2 DisplayVersion = omega arith
arguments_at_most_2 kind = omega arith

-- no fault of a command line has a status above 2
pub line_at_most_2 : (line : CommandLineFault) → line_status line ≤ 2
line_at_most_2 (faults.Arguments error) = arguments_at_most_2 (kind_of error)
line_at_most_2 other = omega arith
