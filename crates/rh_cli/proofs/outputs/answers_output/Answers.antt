use Rattle.std.proofs.Common.{sym, ◌∙◌}
use Rattle.rh_cli.proofs.outputs.answers_output.Goals as goal

pub returns-then-is_output-clause-goes : goal.returns-then-is_output-clause-goes
returns-then-is_output-clause-goes g c = rw (sym c.is_output.ensures ∙ c.if-is_output.true) c.output_of.ensures.goes
