use Rattle.std.proofs.Common.{◌∙◌, ap, sym}
use Rattle.std.specs.List.{list_any}
use Rattle.std.specs.Str.{bytes_eq}
use Rattle.rh_command_line.specs.Table.{CommandState, command_row}
use Rattle.rh_command_line.proofs.Loops.{list_any-map}
use Rattle.rh_command_line.proofs.commands.names_command.Goals as goal

pub returns : goal.returns
returns c =
    c.is_name.ensures ∙ sym (list_any-map (λ (command : CommandState). bytes_eq c.args.word.now command.name) command_row c.commands.result.now)
    ∙ ap (list_any (λ (command : CommandState). bytes_eq c.args.word.now command.name)) c.commands.ensures
