use Rattle.std.proofs.Common.{◌∙◌, ◌||◌, ap₂, sym}
use Rattle.clap.specs.Words.{App, app_of, with_rule}
use Rattle.rh_command_line.specs.Table.{Argument, argument_row}
use Rattle.rh_command_line.proofs.Loops.{fold-map_more}
use Rattle.rh_command_line.proofs.commands.with_arguments.Goals as goal

pub loop-row-preserved : goal.loop-row-preserved
loop-row-preserved c = record {
  app = c.in_ok-more.ensures.shape c.argument.ensures.local ∙ ap₂ with_rule c.loop-row.invariant.app c.argument.ensures.rule
      ∙ sym (fold-map_more (λ (a : App) (argument : Argument). with_rule a argument.rule) argument_row (app_of c.args.command) c.args.rows.now c.loop-row.row-index _ c.loop-row-test.true);
  local = λ none. c.in_ok-more.ensures.globals ∙ ap₂ ◌||◌ (c.loop-row.invariant.local none) c.argument.ensures.local;
}
