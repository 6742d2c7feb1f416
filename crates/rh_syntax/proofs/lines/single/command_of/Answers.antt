use Rattle.std.proofs.Common.{ap, ◌∙◌}
use Rattle.rh_syntax.specs.Reading.{single_command}
use Rattle.rh_syntax.specs.lemmas.ReadIsSpelled.{single_is_spelled}
use Rattle.rh_syntax.specs.lemmas.SpelledIsRead.{single_command-text}
use Rattle.rh_syntax.proofs.lines.single.command_of.Goals as goal

pub returns-clause-found : goal.returns-clause-found
returns-clause-found c = single_is_spelled c.args.line.now c.single_command.result c.single_command.ensures

pub returns-clause-only : goal.returns-clause-only
returns-clause-only c = λ owner command fits is. c.single_command.ensures ∙ ap single_command is ∙ single_command-text owner command fits
