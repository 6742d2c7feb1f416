use Rattle.std.proofs.Common.{◌≡◌, map, take}
use Rattle.clap.specs.Words.{app_of}
use Rattle.rh_command_line.specs.Table.{command_row, with_commands}
use Rattle.rh_command_line.proofs.commands.with_commands.Given as goal

abbrev pub invariant-loop-row : goal.invariant-loop-row
invariant-loop-row l = app_of l.more ≡ with_commands l.word (app_of l.initial.more) (map command_row (take l.row-index l.rows))
