use Rattle.std.proofs.Common.{◌≡◌, false, map, take}
use Rattle.clap.specs.declared.builder.command.Command.TheViews.{out-Command as fields_of}
use Rattle.clap.specs.Words.{app_of}
use Rattle.rh_command_line.specs.Table.{argument_row, with_arguments}
use Rattle.rh_command_line.proofs.commands.with_arguments.Given as goal

abbrev pub invariant-loop-row : goal.invariant-loop-row
invariant-loop-row l = record {
  app : app_of l.more ≡ with_arguments (app_of l.initial.more) (map argument_row (take l.row-index l.rows));
  local : (fields_of l.initial.more).has_globals ≡ false → (fields_of l.more).has_globals ≡ false;
}
