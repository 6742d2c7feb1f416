use Rattle.std.proofs.Common.{◌∙◌, ap, ap₂, sym}
use Rattle.clap.specs.Words.{App, Shape, app_of, with_subcommand}
use Rattle.rh_command_line.specs.Table.{CommandState, command_for, command_row}
use Rattle.rh_command_line.proofs.Loops.{fold-map_more}
use Rattle.rh_command_line.proofs.commands.with_commands.Goals as goal

abbrev top_of : App → Shape
top_of app = app.top

pub loop-row-preserved : goal.loop-row-preserved
loop-row-preserved c =
    c.in_ok-more.ensures.shape c.in_ok-command.ensures.local ∙ ap₂ with_subcommand c.loop-row.invariant (ap top_of c.in_ok-command.ensures.app)
    ∙ sym (fold-map_more (λ (a : App) (command : CommandState). with_subcommand a (command_for c.args.word.now command).top) command_row (app_of c.args.program) c.args.rows.now c.loop-row.row-index _ c.loop-row-test.true)
