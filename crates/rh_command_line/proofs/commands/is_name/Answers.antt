use Rattle.std.proofs.Common.{◌∙◌, sym}
use Rattle.std.specs.Str.{bytes_eq}
use Rattle.std.proofs.lemmas.List.Folds.{list_any_at}
use Rattle.rh_command_line.specs.declared.table.CommandRow.{CommandRow}
use Rattle.rh_command_line.proofs.commands.is_name.Goals as goal

pub returns-then-eq : goal.returns-then-eq
returns-then-eq c =
    sym (list_any_at (λ (row : CommandRow). bytes_eq c.args.word.now row.name.now) c.args.rows.now c.loop-row.row-index _ c.loop-row-test.true (sym c.eq.ensures ∙ c.if-eq.true))
